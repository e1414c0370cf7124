-- The sizes of classes, where each is taken after those of its parts.
use Rattle.std.proofs.Common.{◌≡◌, ◌⊎◌, inl, inr, ℕ, zero, suc, ◌+◌, ◌<◌, ◌≤◌, ◌≢◌, min, Bool, true, false, nat_eq, nat_le, List, [], ◌∷◌, ◌++◌, length, take, get_or, map, Option, Some, None, refl, sym, ap, ◌∙◌, subst, arith}
use Rattle.std.specs.Prelude.{slice_index, slice_set, ◌||◌}
use Rattle.std.proofs.lemmas.Grind.{get_or-set_at}
use Rattle.std.proofs.lemmas.List.{get_or-set_other, length-set}
use Rattle.std.specs.List.{list_any, slice_index_or, sum_by, flat_map, filter_map}
use Rattle.std.proofs.lemmas.Bool.{cases_eq, cases_lt, or_cases, eq-eqb}
use Rattle.std.proofs.lemmas.List.Sums.{sum_by-cons}
use Rattle.std.proofs.lemmas.List.Concat.{length-flat_map}
use Rattle.room_ast.specs.declared.model_parts.entries.TypeEntry.{TypeEntry}
use Rattle.room_ast.specs.declared.model_parts.entries.TypeEntry.TheVariants as types
use Rattle.room_ast.specs.model_parts.Types.{numbers_within}
use Rattle.number_graphs.specs.class_containment.Containment.{parts_of, has_part, IsContainmentOrder}
use Rattle.check_tables.specs.containment_rules.Circles.{class_of_type, classes_of_types}
use Rattle.check_classes.specs.class_sizes.Sizes.{size_within, sizes_within, size_by, cap, AreSizes, size_noted}

-- ---- what a class's size is made of

size_of_class : (depth : ℕ) (classes : List (List TypeEntry)) (i : ℕ) → size_within (suc depth) classes (types.Class i) ≡ sizes_within depth classes (slice_index_or classes i [])
size_of_class depth classes i = length-flat_map (numbers_within depth classes) (slice_index_or classes i [])

pub parts_at : (classes : List (List TypeEntry)) (i : ℕ) → parts_of (map classes_of_types classes) i ≡ classes_of_types (slice_index_or classes i [])
parts_at [] i = refl
parts_at (c ∷ cs) zero = refl
parts_at (c ∷ cs) (suc i) = parts_at cs i

no_fields : (classes : List (List TypeEntry)) (i : ℕ) → length classes ≤ i → slice_index_or classes i [] ≡ []
no_fields [] i ge = refl
no_fields (c ∷ cs) zero ge = absurd (omega arith)
no_fields (c ∷ cs) (suc i) ge = no_fields cs i (omega arith)

-- a number that no class has stands for nothing
no_size : (depth : ℕ) (classes : List (List TypeEntry)) (i : ℕ) → length classes ≤ i → size_within depth classes (types.Class i) ≡ 0
no_size zero classes i ge = refl
no_size (suc depth) classes i ge = size_of_class depth classes i ∙ ap (sizes_within depth classes) (no_fields classes i ge)

-- ---- sums over types

-- two measures that agree at the classes among the types give one sum
sums_agree : (f g : TypeEntry → ℕ) (ts : List TypeEntry) → ((t : _) → f (types.Number t) ≡ g (types.Number t)) → f types.Unknown ≡ g types.Unknown → ((c : ℕ) → list_any (nat_eq c) (classes_of_types ts) ≡ true → f (types.Class c) ≡ g (types.Class c)) → sum_by f ts ≡ sum_by g ts
sums_agree f g [] numbers unknown classes = refl
sums_agree f g (types.Number t ∷ ts) numbers unknown classes =
    let rest : sum_by f ts ≡ sum_by g ts = sums_agree f g ts numbers unknown classes in
    sum_by-cons f (types.Number t) ts ∙ ap (λ n. n + sum_by f ts) (numbers t) ∙ ap (λ n. g (types.Number t) + n) rest ∙ sym (sum_by-cons g (types.Number t) ts)
sums_agree f g (types.Unknown ∷ ts) numbers unknown classes =
    let rest : sum_by f ts ≡ sum_by g ts = sums_agree f g ts numbers unknown classes in
    sum_by-cons f types.Unknown ts ∙ ap (λ n. n + sum_by f ts) unknown ∙ ap (λ n. g types.Unknown + n) rest ∙ sym (sum_by-cons g types.Unknown ts)
sums_agree f g (types.Class c ∷ ts) numbers unknown classes =
    let rest : sum_by f ts ≡ sum_by g ts = sums_agree f g ts numbers unknown (λ d h. classes d (or_right (nat_eq d c) (list_any (nat_eq d) (classes_of_types ts)) h)) in
    let here : f (types.Class c) ≡ g (types.Class c) = classes c (ap (λ b. b || list_any (nat_eq c) (classes_of_types ts)) (eq-eqb c c refl)) in
    sum_by-cons f (types.Class c) ts ∙ ap (λ n. n + sum_by f ts) here ∙ ap (λ n. g (types.Class c) + n) rest ∙ sym (sum_by-cons g (types.Class c) ts)
  where
    or_right : (a b : Bool) → b ≡ true → (a || b) ≡ true
    or_right true b e = refl
    or_right false b e = e

-- ---- how deep classes are looked into doesn't matter, once that is deep enough

pub same_length : (cs : List (List TypeEntry)) → length (map classes_of_types cs) ≡ length cs
same_length [] = refl
same_length (d ∷ ds) = ap suc (same_length ds)

module _ (classes : List (List TypeEntry)) (order : List ℕ) (is : IsContainmentOrder (map classes_of_types classes) order) where
  -- the class of a field of the class at a place stands at an earlier place
  earlier_place : (k i c : ℕ) → k < length order → slice_index order k ≡ i → list_any (nat_eq c) (classes_of_types (slice_index_or classes i [])) ≡ true → c < length classes → (e : ℕ) × (e < k) × (slice_index order e ≡ c)
  earlier_place k i c lt at member within =
      is.sorted k c lt (let Q : ℕ → Type 0 = λ n. has_part (map classes_of_types classes) n c ≡ true in subst Q (sym at) (ap (list_any (nat_eq c)) (parts_at classes i) ∙ member)) (omega (arith, same_length classes, within))

  parts_agree : (k i a b : ℕ) → k < length order → slice_index order k ≡ i → ((e c : ℕ) → e < k → slice_index order e ≡ c → size_within a classes (types.Class c) ≡ size_within b classes (types.Class c))
      → (c : ℕ) → list_any (nat_eq c) (classes_of_types (slice_index_or classes i [])) ≡ true → size_within a classes (types.Class c) ≡ size_within b classes (types.Class c)
  parts_agree k i a b lt at earlier c member =
      elim (cases_lt c (length classes)) [
        | inl within ↦ let s = earlier_place k i c lt at member within in earlier s.0 c s.1 s.2
        | inr ge ↦ no_size a classes c ge ∙ sym (no_size b classes c ge)
      ]

  settles : (most k i a b : ℕ) → k < most → k < length order → slice_index order k ≡ i → k < a → k < b → size_within a classes (types.Class i) ≡ size_within b classes (types.Class i)
  settles zero k i a b small lt at da db = absurd (omega arith)
  settles (suc most) k i zero b small lt at da db = absurd (omega arith)
  settles (suc most) k i (suc a) zero small lt at da db = absurd (omega arith)
  settles (suc most) k i (suc a) (suc b) small lt at da db =
      size_of_class a classes i
      ∙ sums_agree (size_within a classes) (size_within b classes) (slice_index_or classes i []) (λ t. same_number a b t) (same_unknown a b)
      (parts_agree k i a b lt at (λ e c less there. settles most e c a b (omega (arith, less, small)) (omega (arith, less, lt)) there (omega (arith, less, da)) (omega (arith, less, db))))
      ∙ sym (size_of_class b classes i)
    where
      same_number : (a b : ℕ) (t : _) → size_within a classes (types.Number t) ≡ size_within b classes (types.Number t)
      same_number zero zero t = refl
      same_number zero (suc b) t = refl
      same_number (suc a) zero t = refl
      same_number (suc a) (suc b) t = refl

      same_unknown : (a b : ℕ) → size_within a classes types.Unknown ≡ size_within b classes types.Unknown
      same_unknown zero zero = refl
      same_unknown zero (suc b) = refl
      same_unknown (suc a) zero = refl
      same_unknown (suc a) (suc b) = refl

-- ---- sizes that are capped

cap_both : (a b : ℕ) → min cap (min cap a + b) ≡ min cap (a + b)
cap_both a b = grind arith

cap_right : (a b : ℕ) → min cap (a + min cap b) ≡ min cap (a + b)
cap_right a b = grind arith

cap_sums : (f : TypeEntry → ℕ) (ts : List TypeEntry) → min cap (sum_by (λ t. min cap (f t)) ts) ≡ min cap (sum_by f ts)
cap_sums f [] = refl
cap_sums f (t ∷ ts) =
    let rest : min cap (sum_by (λ t. min cap (f t)) ts) ≡ min cap (sum_by f ts) = cap_sums f ts in
    ap (min cap) (sum_by-cons (λ t. min cap (f t)) t ts) ∙ cap_both (f t) (sum_by (λ t. min cap (f t)) ts) ∙ sym (cap_right (f t) (sum_by (λ t. min cap (f t)) ts)) ∙ ap (λ n. min cap (f t + n)) rest ∙ cap_right (f t) (sum_by f ts)
    ∙ sym (ap (min cap) (sum_by-cons f t ts))

one_number : (depth : ℕ) (classes : List (List TypeEntry)) (t : _) → 1 ≡ min cap (size_within depth classes (types.Number t))
one_number zero classes t = refl
one_number (suc depth) classes t = refl

no_number : (depth : ℕ) (classes : List (List TypeEntry)) → 0 ≡ min cap (size_within depth classes types.Unknown)
no_number zero classes = refl
no_number (suc depth) classes = refl

beyond : (xs : List ℕ) (i : ℕ) → length xs ≤ i → slice_index xs i ≡ 0
beyond [] i ge = refl
beyond (x ∷ xs) zero ge = absurd (omega arith)
beyond (x ∷ xs) (suc i) ge = beyond xs i (omega arith)

-- the sizes give what types stand for together
pub sizes_give : (classes : List (List TypeEntry)) (sizes : List ℕ) → AreSizes classes sizes → (ts : List TypeEntry) → min cap (sum_by (size_by sizes) ts) ≡ min cap (sizes_within (length classes) classes ts)
sizes_give classes sizes are ts =
    ap (min cap) (sums_agree (size_by sizes) (λ t. min cap (size_within (length classes) classes t)) ts (one_number (length classes) classes) (no_number (length classes) classes) (λ c h. at c (cases_lt c (length classes))))
    ∙ cap_sums (size_within (length classes) classes) ts
  where
    at : (c : ℕ) → (c < length classes) ⊎ (length classes ≤ c) → slice_index sizes c ≡ min cap (size_within (length classes) classes (types.Class c))
    at c (inl lt) = are.right c lt
    at c (inr ge) = beyond sizes c (omega (arith, are.count, ge)) ∙ sym (ap (min cap) (no_size (length classes) classes c ge))

-- ---- the sizes of the classes at the first places of the order

pub record Sized (classes : List (List TypeEntry)) (order : List ℕ) (k : ℕ) (sizes : List ℕ) : Type 0 where
  pub count : length sizes ≡ length classes
  pub right : (j : ℕ) → j < k → slice_index sizes (slice_index order j) ≡ min cap (size_within (length classes) classes (types.Class (slice_index order j)))

module _ (classes : List (List TypeEntry)) (order : List ℕ) (is : IsContainmentOrder (map classes_of_types classes) order) (k : ℕ) (sizes : List ℕ) (lt : k < length order) (sized : Sized classes order k sizes) where
  few : length order ≤ length classes
  few = let s = is.short in omega (arith, s, same_length classes)

  -- the size of the class at the next place
  next_size : (n : ℕ) → length classes ≡ suc n → size_noted classes sizes (slice_index order k) ≡ min cap (size_within (suc n) classes (types.Class (slice_index order k)))
  next_size n e =
      ap (min cap) (sums_agree (size_by sizes) (λ t. min cap (size_within n classes t)) (slice_index_or classes (slice_index order k) []) (one_number n classes) (no_number n classes) (λ c member. part c member (cases_lt c (length classes))))
      ∙ cap_sums (size_within n classes) (slice_index_or classes (slice_index order k) []) ∙ sym (ap (min cap) (size_of_class n classes (slice_index order k)))
    where
      part : (c : ℕ) → list_any (nat_eq c) (classes_of_types (slice_index_or classes (slice_index order k) [])) ≡ true → (c < length classes) ⊎ (length classes ≤ c) → slice_index sizes c ≡ min cap (size_within n classes (types.Class c))
      part c member (inl within) =
          let s = earlier_place classes order is k (slice_index order k) c lt refl member within in
          let Q : ℕ → Type 0 = λ m. slice_index sizes m ≡ min cap (size_within (length classes) classes (types.Class m)) in
          let known : slice_index sizes c ≡ min cap (size_within (length classes) classes (types.Class c)) = subst Q s.2 (sized.right s.0 s.1) in
          known ∙ ap (min cap) (settles classes order is (suc s.0) s.0 c (length classes) n (omega arith) (omega (arith, s.1, lt)) s.2 (omega (arith, s.1, lt, few)) (omega (arith, s.1, lt, few, e)))
      part c member (inr ge) = beyond sizes c (omega (arith, sized.count, ge)) ∙ sym (ap (min cap) (no_size n classes c ge))

  -- a class that no class has the number of is noted as nothing
  size_beyond : length classes ≤ slice_index order k → size_noted classes sizes (slice_index order k) ≡ min cap (size_within (length classes) classes (types.Class (slice_index order k)))
  size_beyond ge =
      ap (λ ts. min cap (sum_by (size_by sizes) ts)) (no_fields classes (slice_index order k) ge) ∙ sym (ap (min cap) (no_size (length classes) classes (slice_index order k) ge))

  size_here : size_noted classes sizes (slice_index order k) ≡ min cap (size_within (length classes) classes (types.Class (slice_index order k)))
  size_here = by_count (length classes) refl
    where
      by_count : (n : ℕ) → length classes ≡ n → size_noted classes sizes (slice_index order k) ≡ min cap (size_within (length classes) classes (types.Class (slice_index order k)))
      by_count zero e = size_beyond (omega (arith, e))
      by_count (suc n) e = next_size n e ∙ ap (λ m. min cap (size_within m classes (types.Class (slice_index order k)))) (sym e)

  pub sized_more : (new : List ℕ) → new ≡ slice_set sizes (slice_index order k) (size_noted classes sizes (slice_index order k)) → Sized classes order (k + 1) new
  sized_more new e = record {
    count = ap length e ∙ length-set sizes (slice_index order k) (size_noted classes sizes (slice_index order k)) ∙ sized.count;
    right = λ j less. ap (λ xs. slice_index xs (slice_index order j)) e ∙ right_at j less (cases_eq (slice_index order j) (slice_index order k)) (cases_lt (slice_index order k) (length sizes));
  }
    where
      size_of : ℕ → ℕ
      size_of m = min cap (size_within (length classes) classes (types.Class m))

      right_at : (j : ℕ) → j < k + 1 → (slice_index order j ≡ slice_index order k) ⊎ (slice_index order j ≢ slice_index order k) → (slice_index order k < length sizes) ⊎ (length sizes ≤ slice_index order k)
          → slice_index (slice_set sizes (slice_index order k) (size_noted classes sizes (slice_index order k))) (slice_index order j) ≡ min cap (size_within (length classes) classes (types.Class (slice_index order j)))
      right_at j less (inl same) (inl within) =
          let Q : ℕ → Type 0 = λ m. slice_index (slice_set sizes (slice_index order k) (size_noted classes sizes (slice_index order k))) m ≡ min cap (size_within (length classes) classes (types.Class m)) in
          subst Q (sym same) (get_or-set_at sizes (slice_index order k) (slice_index order k) (size_noted classes sizes (slice_index order k)) 0 refl within ∙ size_here)
      right_at j less (inl same) (inr ge) =
          let Q : ℕ → Type 0 = λ m. slice_index (slice_set sizes (slice_index order k) (size_noted classes sizes (slice_index order k))) m ≡ min cap (size_within (length classes) classes (types.Class m)) in
          subst Q (sym same) (beyond (slice_set sizes (slice_index order k) (size_noted classes sizes (slice_index order k))) (slice_index order k) (omega (arith, length-set sizes (slice_index order k) (size_noted classes sizes (slice_index order k)), ge))
          ∙ sym (ap (min cap) (no_size (length classes) classes (slice_index order k) (omega (arith, ge, sized.count)))))
      right_at j less (inr other) side =
          get_or-set_other sizes (slice_index order k) (slice_index order j) (size_noted classes sizes (slice_index order k)) 0 other ∙ sized.right j (before j less other)
        where
          before : (j : ℕ) → j < k + 1 → slice_index order j ≢ slice_index order k → j < k
          before j less other = elim (cases_eq j k) [ inl e ↦ absurd (other (ap (slice_index order) e)) | inr ne ↦ omega (arith, less, ne) ]

-- all classes are sized
pub all_sized : (classes : List (List TypeEntry)) (order : List ℕ) (sizes : List ℕ) → IsContainmentOrder (map classes_of_types classes) order → Sized classes order (length order) sizes → AreSizes classes sizes
all_sized classes order sizes is sized = record {
  count = sized.count;
  right = λ i lt. let w = is.whole i (omega (arith, same_length classes, lt)) in
      let Q : ℕ → Type 0 = λ m. slice_index sizes m ≡ min cap (size_within (length classes) classes (types.Class m)) in subst Q w.2 (sized.right w.0 w.1);
}

pub sized_first : (classes : List (List TypeEntry)) (order sizes : List ℕ) → length sizes ≡ length classes → Sized classes order 0 sizes
sized_first classes order sizes e = record { count = e; right = λ j less. absurd (omega arith) }

pub set_beyond : (sizes : List ℕ) (i v : ℕ) → length sizes ≤ i → sizes ≡ slice_set sizes i v
set_beyond [] i v ge = refl
set_beyond (x ∷ xs) zero v ge = absurd (omega arith)
set_beyond (x ∷ xs) (suc i) v ge = ap (λ ys. x ∷ ys) (set_beyond xs i v (omega arith))
