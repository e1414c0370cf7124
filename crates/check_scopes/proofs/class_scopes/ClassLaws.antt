-- The fields that stand for numbers give the numbers of a class.
use Rattle.std.proofs.Common.{◌≡◌, ℕ, zero, suc, ◌≤◌, Bool, true, false, cond, List, [], ◌∷◌, ◌++◌, length, map, Option, Some, None, refl, sym, ap, ◌∙◌, arith, lit≤}
use Rattle.std.specs.Prelude.{ℤ, pos, ◌-ℤ◌, ◌&&◌, ◌==◌, not, nat_le, option_and_then}
use Rattle.std.specs.List.{list_all, flat_map, filter_map, cons_option, slice_index_or}
use Rattle.std.specs.Option.{option_map_or}
use Rattle.std.proofs.lemmas.Bool.Decides.{nat_tests}
use Rattle.std.proofs.lemmas.List.{length-map}
use Rattle.room_kinds.specs.declared.number_type.NumberType.{NumberType}
use Rattle.room_kinds.specs.declared.number_type.NumberType.TheVariants as numbers
use Rattle.room_ast.specs.Trees.{ModelTree, ActorTree, ClassTree, ASystem, ASubsystem, AnActor, AProtocol, AData}
use Rattle.room_ast.specs.declared.actor.StructureItem.{StructureItem}
use Rattle.room_ast.specs.declared.actor.StructureItem.TheVariants as structures
use Rattle.room_ast.specs.declared.protocol.Attribute.{Attribute}
use Rattle.room_ast.specs.declared.protocol.DataClass.{DataClass}
use Rattle.room_ast.specs.declared.protocol.DataItem.{DataItem}
use Rattle.room_ast.specs.declared.protocol.DataItem.TheVariants as items
use Rattle.room_ast.specs.declared.protocol.PlainValue.{PlainValue}
use Rattle.room_ast.specs.declared.protocol.PlainValue.TheVariants as plain
use Rattle.room_ast.specs.declared.protocol.Value.{Value}
use Rattle.room_ast.specs.declared.protocol.Value.TheVariants as values
use Rattle.room_ast.specs.model_parts.Attributes.{as_attribute, attributes_of, plain_number, value_number, initial_number, numbers_under, class_numbers}
use Rattle.room_ast.specs.model_parts.Classes.{data_names, data_classes, as_actor, as_data, actors}
use Rattle.room_ast.specs.model_parts.Ports.{structure_of}
use Rattle.room_ast.specs.model_parts.Types.{number_type, type_entry, as_field, fields_of, field_types, data_types_in, data_types, numbers_within}
use Rattle.room_ast.specs.declared.model_parts.entries.TypeEntry.{TypeEntry}
use Rattle.room_ast.specs.declared.model_parts.entries.TypeEntry.TheVariants as types
use Rattle.check_classes.specs.class_rules.Types.{greatest, depth, in_range, plain_of, value_fits, attribute_fits, field_fits, item_fits, values_fit, has_fitting_values}
use Rattle.check_mappings.proofs.count_rules.NumberLaws.{numbers_count}
use Rattle.check_scopes.specs.number_kinds.Kinds.{kinds_by, AreKinds}
use Rattle.check_scopes.proofs.number_kinds.KindLaws.{kinds_give}
use Rattle.check_scopes.specs.class_scopes.Fields.{FieldView, small, plain_small, value_small, initial_small, is_kept, field_of, kept, kept_attribute, fields_kept, numbers_below, numbers_of_fields}

-- ---- initial values that fit

small_is : (n most : ℕ) → most ≤ 4294967295 → nat_le n most ≡ true → small n ≡ n
small_is n most le fits = grind (arith, nat_tests)

greatest_small : (t : NumberType) → greatest t ≤ 4294967295
greatest_small numbers.Int8 = lit≤ tt
greatest_small numbers.Int16 = lit≤ tt
greatest_small numbers.Int32 = lit≤ tt
greatest_small numbers.Uint8 = lit≤ tt
greatest_small numbers.Uint16 = lit≤ tt
greatest_small numbers.Uint32 = lit≤ tt
greatest_small numbers.Boolean = lit≤ tt
greatest_small numbers.Plain = lit≤ tt

depth_small : (t : NumberType) → depth t ≤ 4294967295
depth_small numbers.Int8 = lit≤ tt
depth_small numbers.Int16 = lit≤ tt
depth_small numbers.Int32 = lit≤ tt
depth_small numbers.Uint8 = lit≤ tt
depth_small numbers.Uint16 = lit≤ tt
depth_small numbers.Uint32 = lit≤ tt
depth_small numbers.Boolean = lit≤ tt
depth_small numbers.Plain = lit≤ tt

plain_is : (t : NumberType) (v : PlainValue) → in_range t v ≡ true → plain_small v ≡ plain_number v
unfolding in_range
plain_is t (plain.Number n) e = ap pos (small_is n (greatest t) (greatest_small t) e)
plain_is t (plain.Negative n) e = ap (λ k. pos 0 -ℤ pos k) (small_is n (depth t) (depth_small t) e)
plain_is t plain.True e = refl
plain_is t plain.False e = refl

value_of_type : (t : NumberType) (v : Value) → in_range t (plain_of v) ≡ true → value_small v ≡ value_number v
value_of_type t (values.Plain v) e = plain_is t v e
value_of_type t (values.Quoted text v) e = plain_is t v e

value_is : (o : Option NumberType) (v : Value) → option_map_or (λ t. in_range t (plain_of v)) o false ≡ true → value_small v ≡ value_number v
value_is None v e = absurd cc
value_is (Some t) v e = value_of_type t v e

initial_by : (name : List ℕ) (o : Option Value) → option_map_or (value_fits name) o true ≡ true → option_map_or value_small o (pos 0) ≡ option_map_or value_number o (pos 0)
initial_by name None e = refl
initial_by name (Some v) e = value_is (number_type name) v e

initial_is : (a : Attribute) → attribute_fits a ≡ true → initial_small a ≡ initial_number a
unfolding attribute_fits initial_small
initial_is a e = initial_by a.type_name a.value e

-- ---- types that stand for no number

append_empty : {X : Type 0} (xs ys : List X) → xs ++ ys ≡ [] → (xs ≡ []) × (ys ≡ [])
append_empty [] ys e = (refl, e)
append_empty (x ∷ xs) ys e = absurd cc

empty_lists : (f g : TypeEntry → List NumberType) (ts : List TypeEntry) → ((t : TypeEntry) → f t ≡ [] → g t ≡ []) → flat_map f ts ≡ [] → flat_map g ts ≡ []
empty_lists f g [] h e = refl
empty_lists f g (t ∷ ts) h e =
    let both = append_empty (f t) (flat_map f ts) e in
    ap (λ xs. xs ++ flat_map g ts) (h t both.0) ∙ empty_lists f g ts h both.1

-- what stands for nothing stands for nothing where classes are looked into less deep
empty_within : (classes : List (List TypeEntry)) (d most : ℕ) → d ≤ most → (t : TypeEntry) → numbers_within most classes t ≡ [] → numbers_within d classes t ≡ []
empty_within classes zero zero le t e = e
empty_within classes zero (suc most) le (types.Number k) e = absurd cc
empty_within classes zero (suc most) le types.Unknown e = refl
empty_within classes zero (suc most) le (types.Class n) e = refl
empty_within classes (suc d) zero le t e = absurd (omega arith)
empty_within classes (suc d) (suc most) le (types.Number k) e = absurd cc
empty_within classes (suc d) (suc most) le types.Unknown e = refl
empty_within classes (suc d) (suc most) le (types.Class n) e =
    empty_lists (numbers_within most classes) (numbers_within d classes) (slice_index_or classes n []) (λ t h. empty_within classes d most (omega arith) t h) e

no_length : {X : Type 0} (xs : List X) → not (length xs == 0) ≡ false → xs ≡ []
no_length [] e = refl
no_length (x ∷ xs) e = absurd (grind (arith, nat_tests))

dropped_empty : (kinds : List (List NumberType)) (t : TypeEntry) → is_kept kinds t ≡ false → kinds_by kinds t ≡ []
dropped_empty kinds (types.Number t) e = absurd cc
dropped_empty kinds types.Unknown e = refl
dropped_empty kinds (types.Class n) e = no_length (slice_index_or kinds n []) e

nil_of : {X : Type 0} (xs : List X) → length xs ≡ 0 → xs ≡ []
nil_of [] e = refl
nil_of (x ∷ xs) e = absurd (omega (arith, e))

-- ---- what is kept

-- a function of what another picks
fused : {X Y Z : Type 0} (g : Y → Option Z) (h : X → Option Y) (xs : List X) → filter_map (λ x. option_and_then g (h x)) xs ≡ filter_map g (filter_map h xs)
fused g h [] = refl
fused g h (x ∷ xs) = ap (cons_option (option_and_then g (h x))) (fused g h xs) ∙ step (h x)
  where
    step : (o : Option _) → cons_option (option_and_then g o) (filter_map g (filter_map h xs)) ≡ filter_map g (cons_option o (filter_map h xs))
    step (Some y) = refl
    step None = refl

kept_at : (names : List (List ℕ)) (kinds : List (List NumberType)) (classes : List DataClass) (n : ℕ) → slice_index_or (map (fields_kept names kinds) classes) n [] ≡ filter_map (kept names kinds) (slice_index_or (map fields_of classes) n [])
kept_at names kinds [] n = refl
kept_at names kinds (d ∷ ds) zero = fused (kept names kinds) as_field d.items
kept_at names kinds (d ∷ ds) (suc n) = kept_at names kinds ds n

fits_at : (classes : List DataClass) (n : ℕ) → list_all (λ (d : DataClass). list_all attribute_fits (fields_of d)) classes ≡ true → list_all attribute_fits (slice_index_or (map fields_of classes) n []) ≡ true
fits_at [] n e = refl
fits_at (d ∷ ds) zero e = first (list_all attribute_fits (fields_of d)) _ e
  where
    first : (a b : Bool) → (a && b) ≡ true → a ≡ true
    first true b e = refl
    first false b e = e
fits_at (d ∷ ds) (suc n) e = fits_at ds n (second (list_all attribute_fits (fields_of d)) _ e)
  where
    second : (a b : Bool) → (a && b) ≡ true → b ≡ true
    second true b e = e
    second false b e = absurd cc

both_true : (a b : Bool) → (a && b) ≡ true → (a ≡ true) × (b ≡ true)
both_true true b e = (refl, e)
both_true false b e = absurd cc

-- readings of fields that agree where a field is kept, and give nothing where it isn't
fields_agree : {Z : Type 0} (names : List (List ℕ)) (kinds : List (List NumberType)) (f : FieldView → List Z) (g : Attribute → List Z) → ((a : Attribute) → attribute_fits a ≡ true → f (field_of names a) ≡ g a) → ((a : Attribute) → is_kept kinds (type_entry names a.type_name) ≡ false → g a ≡ [])
    → (xs : List Attribute) → list_all attribute_fits xs ≡ true → flat_map f (filter_map (kept names kinds) xs) ≡ flat_map g xs
unfolding kept
fields_agree names kinds f g same none [] fits = refl
fields_agree {Z} names kinds f g same none (a ∷ xs) fits =
    let both = both_true (attribute_fits a) (list_all attribute_fits xs) fits in
    step (is_kept kinds (type_entry names a.type_name)) refl both.0 (fields_agree names kinds f g same none xs both.1)
  where
    step : (b : Bool) → is_kept kinds (type_entry names a.type_name) ≡ b → attribute_fits a ≡ true → flat_map f (filter_map (kept names kinds) xs) ≡ flat_map g xs
        → flat_map f (cons_option (cond b (Some (field_of names a)) None) (filter_map (kept names kinds) xs)) ≡ g a ++ flat_map g xs
    step true e fit rest = ap (λ zs. zs ++ flat_map f (filter_map (kept names kinds) xs)) (same a fit) ∙ ap (λ zs. g a ++ zs) rest
    step false e fit rest = rest ∙ sym (ap (λ zs. zs ++ flat_map g xs) (none a e))

-- ---- the numbers below a path

module _ (names : List (List ℕ)) (classes : List DataClass) (kinds : List (List NumberType)) (are : AreKinds (map (field_types names) classes) kinds) (fit : list_all (λ (d : DataClass). list_all attribute_fits (fields_of d)) classes ≡ true) where
  -- what isn't kept stands for nothing
  none_under : (d : ℕ) → d ≤ length classes → (path : List (List ℕ)) (initial : ℤ) (t : TypeEntry) → is_kept kinds t ≡ false → numbers_under d names classes path initial t ≡ []
  none_under d le path initial t e =
      let whole : numbers_within (length (map (field_types names) classes)) (map (field_types names) classes) t ≡ [] = sym (kinds_give (map (field_types names) classes) kinds are t) ∙ dropped_empty kinds t e in
      let part : numbers_within d (map (field_types names) classes) t ≡ [] = empty_within (map (field_types names) classes) d (length (map (field_types names) classes)) (let k = length-map classes (field_types names) in omega (arith, k)) t whole in
      nil_of (numbers_under d names classes path initial t) (numbers_count d names classes path initial t ∙ ap length part)

  -- a list of attributes, where what is below each is known
  fields_by : (d : ℕ) → d ≤ length classes → ((path : List (List ℕ)) (initial : ℤ) (t : TypeEntry) → numbers_below d (map (fields_kept names kinds) classes) path initial t ≡ numbers_under d names classes path initial t)
      → (path : List (List ℕ)) (xs : List Attribute) → list_all attribute_fits xs ≡ true
      → flat_map (λ (f : FieldView). numbers_below d (map (fields_kept names kinds) classes) (path ++ f.name ∷ []) f.initial f.entry) (filter_map (kept names kinds) xs)
      ≡ flat_map (λ (a : Attribute). numbers_under d names classes (path ++ a.name ∷ []) (initial_number a) (type_entry names a.type_name)) xs
  fields_by d le known path xs fits =
      fields_agree names kinds (λ (f : FieldView). numbers_below d (map (fields_kept names kinds) classes) (path ++ f.name ∷ []) f.initial f.entry)
      (λ (a : Attribute). numbers_under d names classes (path ++ a.name ∷ []) (initial_number a) (type_entry names a.type_name))
      (λ a fits. known (path ++ a.name ∷ []) (initial_small a) (type_entry names a.type_name) ∙ ap (λ i. numbers_under d names classes (path ++ a.name ∷ []) i (type_entry names a.type_name)) (initial_is a fits))
      (λ a e. none_under d le (path ++ a.name ∷ []) (initial_number a) (type_entry names a.type_name) e) xs fits

  below_is : (d : ℕ) → d ≤ length classes → (path : List (List ℕ)) (initial : ℤ) (t : TypeEntry) → numbers_below d (map (fields_kept names kinds) classes) path initial t ≡ numbers_under d names classes path initial t
  below_is zero le path initial (types.Number k) = refl
  below_is zero le path initial types.Unknown = refl
  below_is zero le path initial (types.Class n) = refl
  below_is (suc d) le path initial (types.Number k) = refl
  below_is (suc d) le path initial types.Unknown = refl
  below_is (suc d) le path initial (types.Class n) =
      ap (flat_map (λ (f : FieldView). numbers_below d (map (fields_kept names kinds) classes) (path ++ f.name ∷ []) f.initial f.entry)) (kept_at names kinds classes n)
      ∙ fields_by d (omega arith) (λ path initial t. below_is d (omega arith) path initial t) path (slice_index_or (map fields_of classes) n []) (fits_at classes n fit)

  -- the numbers of attributes
  pub attributes_give : (items : List StructureItem) → list_all attribute_fits (filter_map as_attribute items) ≡ true
      → numbers_of_fields (map (fields_kept names kinds) classes) (filter_map (kept_attribute names kinds) items)
      ≡ flat_map (λ (a : Attribute). numbers_under (length classes) names classes (a.name ∷ []) (initial_number a) (type_entry names a.type_name)) (filter_map as_attribute items)
  attributes_give items fits =
      ap (λ k. flat_map (λ (f : FieldView). numbers_below k (map (fields_kept names kinds) classes) (f.name ∷ []) f.initial f.entry) (filter_map (kept_attribute names kinds) items)) (length-map classes (fields_kept names kinds))
      ∙ ap (flat_map (λ (f : FieldView). numbers_below (length classes) (map (fields_kept names kinds) classes) (f.name ∷ []) f.initial f.entry)) (fused (kept names kinds) as_attribute items)
      ∙ fields_by (length classes) (omega arith) (below_is (length classes) (omega arith)) [] (filter_map as_attribute items) fits

-- ---- what the rule on initial values gives

pub picked_all : {X Y : Type 0} (p : X → Bool) (q : Y → Bool) (h : X → Option Y) → ((x : X) → p x ≡ true → option_map_or q (h x) true ≡ true) → (xs : List X) → list_all p xs ≡ true → list_all q (filter_map h xs) ≡ true
picked_all p q h give [] e = refl
picked_all p q h give (x ∷ xs) e =
    let both = both_true (p x) (list_all p xs) e in
    step (h x) (give x both.0) (picked_all p q h give xs both.1)
  where
    step : (o : Option _) → option_map_or q o true ≡ true → list_all q (filter_map h xs) ≡ true → list_all q (cons_option o (filter_map h xs)) ≡ true
    step (Some y) here rest = ap (λ b. b && list_all q (filter_map h xs)) here ∙ rest
    step None here rest = rest

one_attribute : (i : StructureItem) → item_fits i ≡ true → option_map_or attribute_fits (as_attribute i) true ≡ true
one_attribute (structures.Usercode u) e = refl
one_attribute (structures.External x) e = refl
one_attribute (structures.Port p) e = refl
one_attribute (structures.Access s) e = refl
one_attribute (structures.Implementation i) e = refl
one_attribute (structures.Attribute a) e = e
one_attribute (structures.Reference r) e = refl
one_attribute (structures.Binding b) e = refl
one_attribute (structures.Layer l) e = refl

one_field : (i : DataItem) → field_fits i ≡ true → option_map_or attribute_fits (as_field i) true ≡ true
one_field (items.Usercode u) e = refl
one_field (items.Attribute a) e = e

one_actor : (c : ClassTree) → values_fit c ≡ true → option_map_or (λ (a : ActorTree). list_all attribute_fits (attributes_of a)) (as_actor c) true ≡ true
one_actor (ASystem s) e = refl
one_actor (ASubsystem s) e = refl
one_actor (AnActor a) e = picked_all item_fits attribute_fits as_attribute one_attribute (structure_of a) e
one_actor (AProtocol p) e = refl
one_actor (AData d) e = refl

one_data : (c : ClassTree) → values_fit c ≡ true → option_map_or (λ (d : DataClass). list_all attribute_fits (fields_of d)) (as_data c) true ≡ true
one_data (ASystem s) e = refl
one_data (ASubsystem s) e = refl
one_data (AnActor a) e = refl
one_data (AProtocol p) e = refl
one_data (AData d) e = picked_all field_fits attribute_fits as_field one_field d.items e

pub actors_fit : (m : ModelTree) → has_fitting_values m ≡ true → list_all (λ (a : ActorTree). list_all attribute_fits (attributes_of a)) (actors m) ≡ true
unfolding has_fitting_values
actors_fit m e = picked_all values_fit (λ (a : ActorTree). list_all attribute_fits (attributes_of a)) as_actor one_actor m.classes e

data_fit : (m : ModelTree) → has_fitting_values m ≡ true → list_all (λ (d : DataClass). list_all attribute_fits (fields_of d)) (data_classes m) ≡ true
unfolding has_fitting_values
data_fit m e = picked_all values_fit (λ (d : DataClass). list_all attribute_fits (fields_of d)) as_data one_data m.classes e

-- ---- the numbers of a class of a model

pub class_numbers_are : (m : ModelTree) (a : ActorTree) (kinds : List (List NumberType)) → AreKinds (data_types m) kinds → has_fitting_values m ≡ true → list_all attribute_fits (attributes_of a) ≡ true
    → numbers_of_fields (map (fields_kept (data_names m) kinds) (data_classes m)) (filter_map (kept_attribute (data_names m) kinds) (structure_of a)) ≡ class_numbers m a
unfolding data_types_in
class_numbers_are m a kinds are fitting fits = attributes_give (data_names m) (data_classes m) kinds are (data_fit m fitting) (structure_of a) fits
