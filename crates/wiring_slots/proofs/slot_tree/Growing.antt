-- The loops that make the slots of references.
use Rattle.std.proofs.Common.{◌≡◌, ◌∙◌, ℕ, ◌+◌, ◌-◌, ◌<◌, ◌≤◌, List, [], ◌∷◌, ◌++◌, length, map, get_or, drop, append_assoc, append-nil, length-append, sym, ap, arith}
use Rattle.std.specs.List.{enumerate_from, flat_map, range_with_len}
use Rattle.std.proofs.lemmas.List.{drop_more, drop_all}
use Rattle.std.proofs.lemmas.List.FromFn.{map-range_with_len_more, length-map-range_with_len}

-- one more index
pub index_added : {X : Type 0} (f : ℕ → X) (old now : List X) (i : ℕ) (x : X) → now ≡ old ++ map f (range_with_len 0 i) → x ≡ f i → now ++ x ∷ [] ≡ old ++ map f (range_with_len 0 (i + 1))
index_added {X} f old now i x h e =
    ap (λ (xs : List X). xs ++ x ∷ []) h ∙ append_assoc old (map f (range_with_len 0 i)) (x ∷ []) ∙ ap (λ (y : X). old ++ (map f (range_with_len 0 i) ++ y ∷ [])) e
    ∙ ap (λ (xs : List X). old ++ xs) (sym (map-range_with_len_more f 0 i i (omega arith)))

-- all indexes
pub all_indexes : {X : Type 0} (f : ℕ → X) (old now : List X) (i count : ℕ) → i ≡ count → now ≡ old ++ map f (range_with_len 0 i) → now ≡ old ++ map f (range_with_len 0 count)
all_indexes {X} f old now i count all h = h ∙ ap (λ (k : ℕ). old ++ map f (range_with_len 0 k)) all

-- what the slots of a reference make of a list in a room
pub indexes_fit : {X : Type 0} (f : ℕ → X) (old now : List X) (count room : ℕ) → count ≤ room - length old → length old ≤ room → now ≡ old ++ map f (range_with_len 0 count) → length now ≤ room
indexes_fit {X} f old now count room fits few whole =
    let size = ap length whole ∙ length-append old (map f (range_with_len 0 count)) in
    omega (arith, size, length-map-range_with_len f 0 count)

module _ {X Y : Type 0} (f : ℕ × X → List Y) (xs : List X) (i : ℕ) (d x : X) (l : i < length xs) (is : x ≡ get_or xs i d) where
  first : flat_map f (enumerate_from i (drop i xs)) ≡ f (i, x) ++ flat_map f (enumerate_from (i + 1) (drop (i + 1) xs))
  first = ap (λ (ys : List X). flat_map f (enumerate_from i ys)) (drop_more xs i d l) ∙ ap (λ (y : X). f (i, y) ++ flat_map f (enumerate_from (i + 1) (drop (i + 1) xs))) (sym is)

  -- one more reference
  pub reference_added : (now new all : List Y) → now ++ flat_map f (enumerate_from i (drop i xs)) ≡ all → new ≡ now ++ f (i, x) → new ++ flat_map f (enumerate_from (i + 1) (drop (i + 1) xs)) ≡ all
  reference_added now new all h e =
      ap (λ (ys : List Y). ys ++ flat_map f (enumerate_from (i + 1) (drop (i + 1) xs))) e ∙ append_assoc now (f (i, x)) (flat_map f (enumerate_from (i + 1) (drop (i + 1) xs)))
      ∙ ap (λ (ys : List Y). now ++ ys) (sym first) ∙ h

  -- no room for another reference
  pub reference_over : (now all : List Y) (room : ℕ) → now ++ flat_map f (enumerate_from i (drop i xs)) ≡ all → room < length now + length (f (i, x)) → room < length all
  reference_over now all room h over =
      let rest = flat_map f (enumerate_from (i + 1) (drop (i + 1) xs)) in
      let size = sym (ap length h) ∙ length-append now (flat_map f (enumerate_from i (drop i xs))) in
      let split = ap length first ∙ length-append (f (i, x)) rest in
      omega (arith, size, split, over)

-- all references
pub references_added : {X Y : Type 0} (f : ℕ × X → List Y) (xs : List X) (i : ℕ) (now all : List Y) → length xs ≤ i → now ++ flat_map f (enumerate_from i (drop i xs)) ≡ all → now ≡ all
references_added {X} {Y} f xs i now all end h = sym (append-nil now) ∙ sym (ap (λ (ys : List X). now ++ flat_map f (enumerate_from i ys)) (drop_all i xs end)) ∙ h
