-- The types of the numbers of classes, where those of each are taken after those of its parts.
use Rattle.std.proofs.Common.{◌≡◌, ◌⊎◌, inl, inr, ℕ, zero, suc, ◌+◌, ◌<◌, ◌≤◌, ◌≢◌, Bool, true, false, nat_eq, List, [], ◌∷◌, ◌++◌, length, map, Option, Some, None, refl, sym, ap, ◌∙◌, subst, arith}
use Rattle.std.specs.Prelude.{slice_index, slice_set, ◌||◌}
use Rattle.std.specs.Global.{Vec}
use Rattle.std.specs.List.{list_any, slice_index_or, flat_map}
use Rattle.std.proofs.lemmas.Grind.{get_or-set_at}
use Rattle.std.proofs.lemmas.List.{get_or-set_other, length-set}
use Rattle.std.proofs.lemmas.Bool.{cases_eq, cases_lt, eq-eqb}
use Rattle.room_kinds.specs.declared.number_type.NumberType.{NumberType}
use Rattle.room_ast.specs.declared.model_parts.entries.TypeEntry.{TypeEntry}
use Rattle.room_ast.specs.declared.model_parts.entries.TypeEntry.TheVariants as types
use Rattle.room_ast.specs.model_parts.Types.{numbers_within}
use Rattle.number_graphs.specs.class_containment.Containment.{has_part, IsContainmentOrder, contains_itself}
use Rattle.number_graphs.specs.class_containment.Walks.{Orders}
use Rattle.number_graphs.proofs.class_containment.Chains.{circle_is_seen}
use Rattle.check_tables.specs.containment_rules.Circles.{classes_of_types}
use Rattle.check_scopes.specs.number_kinds.Kinds.{kinds_by, kinds_noted, AreKinds}
use Rattle.check_classes.proofs.class_sizes.SizeLaws.{parts_at, same_length}

beyond : {X : Type 0} (xs : List (List X)) (i : ℕ) → length xs ≤ i → slice_index_or xs i [] ≡ []
beyond [] i ge = refl
beyond (x ∷ xs) zero ge = absurd (omega arith)
beyond (x ∷ xs) (suc i) ge = beyond xs i (omega arith)

-- a number that no class has stands for nothing
no_numbers : (depth : ℕ) (classes : List (List TypeEntry)) (i : ℕ) → length classes ≤ i → numbers_within depth classes (types.Class i) ≡ []
no_numbers zero classes i ge = refl
no_numbers (suc depth) classes i ge = ap (flat_map (numbers_within depth classes)) (beyond classes i ge)

-- ---- lists over types

-- two readings that agree at the classes among the types give one list
lists_agree : (f g : TypeEntry → List NumberType) (ts : List TypeEntry) → ((t : NumberType) → f (types.Number t) ≡ g (types.Number t)) → f types.Unknown ≡ g types.Unknown → ((c : ℕ) → list_any (nat_eq c) (classes_of_types ts) ≡ true → f (types.Class c) ≡ g (types.Class c)) → flat_map f ts ≡ flat_map g ts
lists_agree f g [] numbers unknown classes = refl
lists_agree f g (types.Number t ∷ ts) numbers unknown classes = ap (λ xs. xs ++ flat_map f ts) (numbers t) ∙ ap (λ xs. g (types.Number t) ++ xs) (lists_agree f g ts numbers unknown classes)
lists_agree f g (types.Unknown ∷ ts) numbers unknown classes = ap (λ xs. xs ++ flat_map f ts) unknown ∙ ap (λ xs. g types.Unknown ++ xs) (lists_agree f g ts numbers unknown classes)
lists_agree f g (types.Class c ∷ ts) numbers unknown classes =
    let rest : flat_map f ts ≡ flat_map g ts = lists_agree f g ts numbers unknown (λ d h. classes d (or_right (nat_eq d c) (list_any (nat_eq d) (classes_of_types ts)) h)) in
    let here : f (types.Class c) ≡ g (types.Class c) = classes c (ap (λ b. b || list_any (nat_eq c) (classes_of_types ts)) (eq-eqb c c refl)) in
    ap (λ xs. xs ++ flat_map f ts) here ∙ ap (λ xs. g (types.Class c) ++ xs) rest
  where
    or_right : (a b : Bool) → b ≡ true → (a || b) ≡ true
    or_right true b e = refl
    or_right false b e = e

same_number : (a b : ℕ) (classes : List (List TypeEntry)) (t : NumberType) → numbers_within a classes (types.Number t) ≡ numbers_within b classes (types.Number t)
same_number zero zero classes t = refl
same_number zero (suc b) classes t = refl
same_number (suc a) zero classes t = refl
same_number (suc a) (suc b) classes t = refl

same_unknown : (a b : ℕ) (classes : List (List TypeEntry)) → numbers_within a classes types.Unknown ≡ numbers_within b classes types.Unknown
same_unknown zero zero classes = refl
same_unknown zero (suc b) classes = refl
same_unknown (suc a) zero classes = refl
same_unknown (suc a) (suc b) classes = refl

-- ---- how deep classes are looked into doesn't matter, once that is deep enough

module _ (classes : List (List TypeEntry)) (order : List ℕ) (is : IsContainmentOrder (map classes_of_types classes) order) where
  -- the class of a field of the class at a place stands at an earlier place
  earlier_place : (k i c : ℕ) → k < length order → slice_index order k ≡ i → list_any (nat_eq c) (classes_of_types (slice_index_or classes i [])) ≡ true → c < length classes → (e : ℕ) × (e < k) × (slice_index order e ≡ c)
  earlier_place k i c lt at member within =
      is.sorted k c lt (let Q : ℕ → Type 0 = λ n. has_part (map classes_of_types classes) n c ≡ true in subst Q (sym at) (ap (list_any (nat_eq c)) (parts_at classes i) ∙ member)) (omega (arith, same_length classes, within))

  parts_agree : (k i a b : ℕ) → k < length order → slice_index order k ≡ i → ((e c : ℕ) → e < k → slice_index order e ≡ c → numbers_within a classes (types.Class c) ≡ numbers_within b classes (types.Class c))
      → (c : ℕ) → list_any (nat_eq c) (classes_of_types (slice_index_or classes i [])) ≡ true → numbers_within a classes (types.Class c) ≡ numbers_within b classes (types.Class c)
  parts_agree k i a b lt at earlier c member =
      elim (cases_lt c (length classes)) [
        | inl within ↦ let s = earlier_place k i c lt at member within in earlier s.0 c s.1 s.2
        | inr ge ↦ no_numbers a classes c ge ∙ sym (no_numbers b classes c ge)
      ]

  settles : (most k i a b : ℕ) → k < most → k < length order → slice_index order k ≡ i → k < a → k < b → numbers_within a classes (types.Class i) ≡ numbers_within b classes (types.Class i)
  settles zero k i a b small lt at da db = absurd (omega arith)
  settles (suc most) k i zero b small lt at da db = absurd (omega arith)
  settles (suc most) k i (suc a) zero small lt at da db = absurd (omega arith)
  settles (suc most) k i (suc a) (suc b) small lt at da db =
      lists_agree (numbers_within a classes) (numbers_within b classes) (slice_index_or classes i []) (λ t. same_number a b classes t) (same_unknown a b classes)
      (parts_agree k i a b lt at (λ e c less there. settles most e c a b (omega (arith, less, small)) (omega (arith, less, lt)) there (omega (arith, less, da)) (omega (arith, less, db))))

-- the table gives what types stand for
pub kinds_give : (classes : List (List TypeEntry)) (table : List (List NumberType)) → AreKinds classes table → (t : TypeEntry) → kinds_by table t ≡ numbers_within (length classes) classes t
kinds_give classes table are (types.Number t) = same_number 0 (length classes) classes t
kinds_give classes table are types.Unknown = same_unknown 0 (length classes) classes
kinds_give classes table are (types.Class c) = at (cases_lt c (length classes))
  where
    at : (c < length classes) ⊎ (length classes ≤ c) → slice_index_or table c [] ≡ numbers_within (length classes) classes (types.Class c)
    at (inl lt) = are.right c lt
    at (inr ge) = beyond table c (omega (arith, are.count, ge)) ∙ sym (no_numbers (length classes) classes c ge)

-- ---- the classes at the first places of the order

pub record Noted (classes : List (List TypeEntry)) (order : List ℕ) (k : ℕ) (table : List (List NumberType)) : Type 0 where
  pub count : length table ≡ length classes
  pub right : (j : ℕ) → j < k → slice_index_or table (slice_index order j) [] ≡ numbers_within (length classes) classes (types.Class (slice_index order j))

module _ (classes : List (List TypeEntry)) (order : List ℕ) (is : IsContainmentOrder (map classes_of_types classes) order) (k : ℕ) (table : List (List NumberType)) (lt : k < length order) (noted : Noted classes order k table) where
  few : length order ≤ length classes
  few = let s = is.short in omega (arith, s, same_length classes)

  -- the class at the next place
  next_kinds : (n : ℕ) → length classes ≡ suc n → kinds_noted classes table (slice_index order k) ≡ numbers_within (suc n) classes (types.Class (slice_index order k))
  next_kinds n e =
      lists_agree (kinds_by table) (numbers_within n classes) (slice_index_or classes (slice_index order k) []) (λ t. same_number 0 n classes t) (same_unknown 0 n classes) (λ c member. part c member (cases_lt c (length classes)))
    where
      part : (c : ℕ) → list_any (nat_eq c) (classes_of_types (slice_index_or classes (slice_index order k) [])) ≡ true → (c < length classes) ⊎ (length classes ≤ c) → slice_index_or table c [] ≡ numbers_within n classes (types.Class c)
      part c member (inl within) =
          let s = earlier_place classes order is k (slice_index order k) c lt refl member within in
          let Q : ℕ → Type 0 = λ m. slice_index_or table m [] ≡ numbers_within (length classes) classes (types.Class m) in
          let known : slice_index_or table c [] ≡ numbers_within (length classes) classes (types.Class c) = subst Q s.2 (noted.right s.0 s.1) in
          known ∙ settles classes order is (suc s.0) s.0 c (length classes) n (omega arith) (omega (arith, s.1, lt)) s.2 (omega (arith, s.1, lt, few)) (omega (arith, s.1, lt, few, e))
      part c member (inr ge) = beyond table c (omega (arith, noted.count, ge)) ∙ sym (no_numbers n classes c ge)

  kinds_here : kinds_noted classes table (slice_index order k) ≡ numbers_within (length classes) classes (types.Class (slice_index order k))
  kinds_here = by_count (length classes) refl
    where
      by_count : (n : ℕ) → length classes ≡ n → kinds_noted classes table (slice_index order k) ≡ numbers_within (length classes) classes (types.Class (slice_index order k))
      by_count zero e = ap (flat_map (kinds_by table)) (beyond classes (slice_index order k) (omega (arith, e))) ∙ sym (no_numbers (length classes) classes (slice_index order k) (omega (arith, e)))
      by_count (suc n) e = next_kinds n e ∙ ap (λ m. numbers_within m classes (types.Class (slice_index order k))) (sym e)

  pub noted_more : (new : List (List NumberType)) → new ≡ slice_set table (slice_index order k) (kinds_noted classes table (slice_index order k)) → Noted classes order (k + 1) new
  noted_more new e = record {
    count = ap length e ∙ length-set table (slice_index order k) (kinds_noted classes table (slice_index order k)) ∙ noted.count;
    right = λ j less. ap (λ xs. slice_index_or xs (slice_index order j) []) e ∙ right_at j less (cases_eq (slice_index order j) (slice_index order k)) (cases_lt (slice_index order k) (length table));
  }
    where
      right_at : (j : ℕ) → j < k + 1 → (slice_index order j ≡ slice_index order k) ⊎ (slice_index order j ≢ slice_index order k) → (slice_index order k < length table) ⊎ (length table ≤ slice_index order k)
          → slice_index_or (slice_set table (slice_index order k) (kinds_noted classes table (slice_index order k))) (slice_index order j) [] ≡ numbers_within (length classes) classes (types.Class (slice_index order j))
      right_at j less (inl same) (inl within) =
          let Q : ℕ → Type 0 = λ m. slice_index_or (slice_set table (slice_index order k) (kinds_noted classes table (slice_index order k))) m [] ≡ numbers_within (length classes) classes (types.Class m) in
          subst Q (sym same) (get_or-set_at table (slice_index order k) (slice_index order k) (kinds_noted classes table (slice_index order k)) [] refl within ∙ kinds_here)
      right_at j less (inl same) (inr ge) =
          let Q : ℕ → Type 0 = λ m. slice_index_or (slice_set table (slice_index order k) (kinds_noted classes table (slice_index order k))) m [] ≡ numbers_within (length classes) classes (types.Class m) in
          subst Q (sym same) (beyond (slice_set table (slice_index order k) (kinds_noted classes table (slice_index order k))) (slice_index order k) (omega (arith, length-set table (slice_index order k) (kinds_noted classes table (slice_index order k)), ge))
          ∙ sym (no_numbers (length classes) classes (slice_index order k) (omega (arith, ge, noted.count))))
      right_at j less (inr other) side =
          get_or-set_other table (slice_index order k) (slice_index order j) (kinds_noted classes table (slice_index order k)) [] other ∙ noted.right j (before j less other)
        where
          before : (j : ℕ) → j < k + 1 → slice_index order j ≢ slice_index order k → j < k
          before j less other = elim (cases_eq j k) [ inl e ↦ absurd (other (ap (slice_index order) e)) | inr ne ↦ omega (arith, less, ne) ]

-- all classes are noted
pub all_noted : (classes : List (List TypeEntry)) (order : List ℕ) (table : List (List NumberType)) → IsContainmentOrder (map classes_of_types classes) order → Noted classes order (length order) table → AreKinds classes table
all_noted classes order table is noted = record {
  count = noted.count;
  right = λ i lt. let w = is.whole i (omega (arith, same_length classes, lt)) in
      let Q : ℕ → Type 0 = λ m. slice_index_or table m [] ≡ numbers_within (length classes) classes (types.Class m) in subst Q w.2 (noted.right w.0 w.1);
}

pub noted_first : (classes : List (List TypeEntry)) (order : List ℕ) (table : List (List NumberType)) → length table ≡ length classes → Noted classes order 0 table
noted_first classes order table e = record { count = e; right = λ j less. absurd (omega arith) }

pub set_beyond : (table : List (List NumberType)) (i : ℕ) (v : List NumberType) → length table ≤ i → table ≡ slice_set table i v
set_beyond [] i v ge = refl
set_beyond (x ∷ xs) zero v ge = absurd (omega arith)
set_beyond (x ∷ xs) (suc i) v ge = ap (λ ys. x ∷ ys) (set_beyond xs i v (omega arith))

-- ---- the whole

pub none_kinds : (classes : List (List TypeEntry)) (parts : List (List ℕ)) (order : Option (Vec ℕ)) → parts ≡ map classes_of_types classes → Orders parts order → order ≡ None → contains_itself (map classes_of_types classes) ≡ true
none_kinds classes parts (Some order) e h is = absurd cc
none_kinds classes parts None e h is = ap contains_itself (sym e) ∙ circle_is_seen parts h.0 h.1

pub some_kinds : (classes : List (List TypeEntry)) (parts : List (List ℕ)) (option : Option (Vec ℕ)) (order : Vec ℕ) (table : List (List NumberType)) → parts ≡ map classes_of_types classes → Orders parts option → option ≡ Some order → (IsContainmentOrder (map classes_of_types classes) order.items → AreKinds classes table)
    → AreKinds classes table
some_kinds classes parts None order table e h is give = absurd cc
some_kinds classes parts (Some found) order table e h is give =
    let P : List (List ℕ) → Type 0 = λ ps. IsContainmentOrder ps order.items in
    let same : found ≡ order = cc in
    let Q : Vec ℕ → Type 0 = λ v. IsContainmentOrder parts v.items in
    give (subst P e (subst Q same h.0))
