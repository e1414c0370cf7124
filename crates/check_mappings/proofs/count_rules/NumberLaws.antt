-- The numbers of a class's attributes, by the sizes of the data classes.
use Rattle.std.proofs.Common.{◌≡◌, ℕ, zero, suc, ◌+◌, min, Bool, true, nat_le, List, [], ◌∷◌, ◌++◌, length, map, Option, Some, None, refl, sym, ap, ◌∙◌, subst, arith}
use Rattle.std.specs.Prelude.{ℤ, ◌&&◌}
use Rattle.std.specs.Global.{Vec}
use Rattle.std.specs.List.{list_all, sum_by, filter_map, cons_option, slice_index_or}
use Rattle.std.specs.Option.{option_map_or}
use Rattle.std.proofs.lemmas.Bool.Decides.{nat_tests}
use Rattle.std.proofs.lemmas.List.Sums.{sum_by-cons}
use Rattle.std.proofs.lemmas.List.Concat.{length-flat_map}
use Rattle.room_ast.specs.Trees.{ModelTree, ActorTree}
use Rattle.room_ast.specs.declared.actor.StructureItem.{StructureItem}
use Rattle.room_ast.specs.declared.protocol.Attribute.{Attribute}
use Rattle.room_ast.specs.declared.protocol.DataClass.{DataClass}
use Rattle.room_ast.specs.model_parts.Attributes.{as_attribute, attributes_of, initial_number, numbers_under, class_numbers}
use Rattle.room_ast.specs.model_parts.Classes.{data_names, data_classes, actors}
use Rattle.room_ast.specs.model_parts.Ports.{structure_of}
use Rattle.room_ast.specs.model_parts.Types.{type_entry, fields_of, field_types, data_types_in, data_types, numbers_within}
use Rattle.room_ast.specs.declared.model_parts.entries.TypeEntry.{TypeEntry}
use Rattle.room_ast.specs.declared.model_parts.entries.TypeEntry.TheVariants as types
use Rattle.number_graphs.specs.class_containment.Containment.{contains_itself}
use Rattle.check_tables.specs.class_tables.Containers.{class_names, tables_with, tables_of}
use Rattle.check_tables.specs.declared.class_tables.tables.Tables.{Tables}
use Rattle.check_tables.specs.containment_rules.Circles.{classes_of_types}
use Rattle.check_classes.specs.class_sizes.Sizes.{size_within, sizes_within, size_by, cap, AreSizes, HasSizes}
use Rattle.check_classes.proofs.class_sizes.SizeLaws.{sizes_give}
use Rattle.check_mappings.specs.count_rules.Counts.{numbers_are_few}
use Rattle.check_mappings.specs.count_rules.Counting.{attribute_size, item_size, numbers_fit}

-- ---- an attribute stands for as many numbers under its path as its type stands for

fields_at : (names : List (List ℕ)) (classes : List DataClass) (n : ℕ) → slice_index_or (map (field_types names) classes) n [] ≡ map (λ (f : Attribute). type_entry names f.type_name) (slice_index_or (map fields_of classes) n [])
fields_at names [] n = refl
fields_at names (d ∷ ds) zero = refl
fields_at names (d ∷ ds) (suc n) = fields_at names ds n

-- sums agree where each term does
terms_agree : {X Y : Type 0} (f : X → ℕ) (g : Y → ℕ) (v : X → Y) (xs : List X) → ((x : X) → f x ≡ g (v x)) → sum_by f xs ≡ sum_by g (map v xs)
terms_agree f g v [] e = refl
terms_agree f g v (x ∷ xs) e = sum_by-cons f x xs ∙ ap (λ n. n + sum_by f xs) (e x) ∙ ap (λ n. g (v x) + n) (terms_agree f g v xs e) ∙ sym (sum_by-cons g (v x) (map v xs))

pub numbers_count : (depth : ℕ) (names : List (List ℕ)) (classes : List DataClass) (path : List (List ℕ)) (initial : ℤ) (t : TypeEntry)
    → length (numbers_under depth names classes path initial t) ≡ size_within depth (map (field_types names) classes) t
numbers_count zero names classes path initial (types.Number k) = refl
numbers_count zero names classes path initial types.Unknown = refl
numbers_count zero names classes path initial (types.Class n) = refl
numbers_count (suc depth) names classes path initial (types.Number k) = refl
numbers_count (suc depth) names classes path initial types.Unknown = refl
numbers_count (suc depth) names classes path initial (types.Class n) =
    length-flat_map (λ (f : Attribute). numbers_under depth names classes (path ++ f.name ∷ []) (initial_number f) (type_entry names f.type_name)) (slice_index_or (map fields_of classes) n [])
    ∙ terms_agree (λ (f : Attribute). length (numbers_under depth names classes (path ++ f.name ∷ []) (initial_number f) (type_entry names f.type_name))) (size_within depth (map (field_types names) classes)) (λ (f : Attribute). type_entry names f.type_name)
    (slice_index_or (map fields_of classes) n []) (λ f. numbers_count depth names classes (path ++ f.name ∷ []) (initial_number f) (type_entry names f.type_name))
    ∙ ap (sum_by (size_within depth (map (field_types names) classes))) (sym (fields_at names classes n))
    ∙ sym (length-flat_map (numbers_within depth (map (field_types names) classes)) (slice_index_or (map (field_types names) classes) n []))

pub same_length : {X Y : Type 0} (f : X → Y) (xs : List X) → length (map f xs) ≡ length xs
same_length f [] = refl
same_length f (x ∷ xs) = ap suc (same_length f xs)

-- the numbers of a class are those of the types of its attributes
pub class_count : (m : ModelTree) (a : ActorTree) → length (class_numbers m a) ≡ sizes_within (length (data_types m)) (data_types m) (map (λ (f : Attribute). type_entry (data_names m) f.type_name) (attributes_of a))
unfolding data_types_in
class_count m a =
    length-flat_map (λ (f : Attribute). numbers_under (length (data_classes m)) (data_names m) (data_classes m) (f.name ∷ []) (initial_number f) (type_entry (data_names m) f.type_name)) (attributes_of a)
    ∙ terms_agree (λ (f : Attribute). length (numbers_under (length (data_classes m)) (data_names m) (data_classes m) (f.name ∷ []) (initial_number f) (type_entry (data_names m) f.type_name))) (size_within (length (data_classes m)) (data_types m))
    (λ (f : Attribute). type_entry (data_names m) f.type_name) (attributes_of a) (λ f. numbers_count (length (data_classes m)) (data_names m) (data_classes m) (f.name ∷ []) (initial_number f) (type_entry (data_names m) f.type_name))
    ∙ ap (λ n. sizes_within n (data_types m) (map (λ (f : Attribute). type_entry (data_names m) f.type_name) (attributes_of a))) (sym (same_length (field_types (data_names m)) (data_classes m)))

-- ---- by items

items_sum : (names : List (List ℕ)) (sizes : List ℕ) (items : List StructureItem) → sum_by (item_size names sizes) items ≡ sum_by (size_by sizes) (map (λ (f : Attribute). type_entry names f.type_name) (filter_map as_attribute items))
items_sum names sizes [] = refl
items_sum names sizes (i ∷ is) = sum_by-cons (item_size names sizes) i is ∙ ap (λ n. item_size names sizes i + n) (items_sum names sizes is) ∙ step (as_attribute i)
  where
    step : (o : Option Attribute) → option_map_or (attribute_size names sizes) o 0 + sum_by (size_by sizes) (map (λ (f : Attribute). type_entry names f.type_name) (filter_map as_attribute is))
        ≡ sum_by (size_by sizes) (map (λ (f : Attribute). type_entry names f.type_name) (cons_option o (filter_map as_attribute is)))
    step (Some f) = sym (sum_by-cons (size_by sizes) (type_entry names f.type_name) (map (λ (f : Attribute). type_entry names f.type_name) (filter_map as_attribute is)))
    step None = omega arith

cap_test : (n : ℕ) → nat_le (min cap n) 4096 ≡ nat_le n 4096
cap_test n = grind (arith, nat_tests)

fits : (m : ModelTree) (sizes : List ℕ) (a : ActorTree) → AreSizes (data_types m) sizes → numbers_fit (data_names m) sizes a ≡ numbers_are_few m a
fits m sizes a are =
    ap (λ n. nat_le (min cap n) 4096) (items_sum (data_names m) sizes (structure_of a))
    ∙ ap (λ n. nat_le n 4096) (sizes_give (data_types m) sizes are (map (λ (f : Attribute). type_entry (data_names m) f.type_name) (attributes_of a)))
    ∙ cap_test (sizes_within (length (data_types m)) (data_types m) (map (λ (f : Attribute). type_entry (data_names m) f.type_name) (attributes_of a)))
    ∙ ap (λ n. nat_le n 4096) (sym (class_count m a))

all_fit : (m : ModelTree) (sizes : List ℕ) (cs : List ActorTree) → AreSizes (data_types m) sizes → list_all (numbers_fit (data_names m) sizes) cs ≡ list_all (numbers_are_few m) cs
all_fit m sizes [] are = refl
all_fit m sizes (a ∷ cs) are = ap (λ b. b && list_all (numbers_fit (data_names m) sizes) cs) (fits m sizes a are) ∙ ap (λ b. numbers_are_few m a && b) (all_fit m sizes cs are)

-- ---- by the tables

pub names_of_tables : (m : ModelTree) (t : Tables) → t ≡ tables_of m → t.names.data_classes ≡ data_names m
unfolding class_names tables_with
names_of_tables m t e = ap (λ (x : Tables). x.names.data_classes) e

pub types_of_tables : (m : ModelTree) (t : Tables) → t ≡ tables_of m → t.data_types ≡ data_types m
unfolding class_names tables_with
types_of_tables m t e = ap (λ (x : Tables). x.data_types) e

pub few_by_sizes : (m : ModelTree) (t : Tables) (classes : List (List TypeEntry)) (sizes : List ℕ) (cs : List ActorTree) (b : Bool) → t ≡ tables_of m → classes ≡ t.data_types → AreSizes classes sizes → cs ≡ actors m → b ≡ list_all (numbers_fit t.names.data_classes sizes) cs
    → b ≡ list_all (numbers_are_few m) (actors m)
few_by_sizes m t classes sizes cs b e f are same test =
    let P : List (List TypeEntry) → Type 0 = λ ts. AreSizes ts sizes in
    test ∙ ap (λ ns. list_all (numbers_fit ns sizes) cs) (names_of_tables m t e) ∙ all_fit m sizes cs (subst P (f ∙ types_of_tables m t e) are) ∙ ap (list_all (numbers_are_few m)) same

pub some_sizes : (classes : List (List TypeEntry)) (o : Option (Vec ℕ)) (sizes : Vec ℕ) → HasSizes classes o → o ≡ Some sizes → AreSizes classes sizes.items
some_sizes classes o sizes h e = let P : Option (Vec ℕ) → Type 0 = λ x. HasSizes classes x in subst P e h

pub no_sizes : (classes : List (List TypeEntry)) (o : Option (Vec ℕ)) → HasSizes classes o → o ≡ None → contains_itself (map classes_of_types classes) ≡ true
no_sizes classes o h e = let P : Option (Vec ℕ) → Type 0 = λ x. HasSizes classes x in subst P e h
