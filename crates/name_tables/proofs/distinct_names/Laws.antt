-- The test and the fact that names are distinct.
use Rattle.std.proofs.Common.{◌≡◌, ℕ, Bool, true, false, not, List, [], ◌∷◌, Option, Some, None, refl, sym, ap, ◌∙◌}
use Rattle.std.specs.Prelude.{◌||◌}
use Rattle.std.specs.List.{IsDistinct, AllByRecursion}
use Rattle.std.proofs.lemmas.Bool.{and_parts, and_from, not-true}
use Rattle.name_tables.specs.name_numbers.Names.{same, is_among, AreDistinct, Numbered}
use Rattle.name_tables.specs.distinct_names.Distinct.{is_distinct}

none_among : (x : List ℕ) (xs : List (List ℕ)) → AllByRecursion (λ y. same x y ≡ false) xs → is_among xs x ≡ false
none_among x [] h = refl
none_among x (y ∷ ys) h = ap (λ b. b || is_among ys x) h.0 ∙ none_among x ys h.1

each_apart : (x : List ℕ) (xs : List (List ℕ)) → is_among xs x ≡ false → AllByRecursion (λ y. same x y ≡ false) xs
each_apart x [] h = tt
each_apart x (y ∷ ys) h = (left (same x y) (is_among ys x) h, each_apart x ys (right (same x y) (is_among ys x) h))
  where
    left : (a b : Bool) → (a || b) ≡ false → a ≡ false
    left true b e = e
    left false b e = refl

    right : (a b : Bool) → (a || b) ≡ false → b ≡ false
    right true b e = absurd cc
    right false b e = e

pub test_of : (xs : List (List ℕ)) → AreDistinct xs → is_distinct xs ≡ true
unfolding IsDistinct
test_of [] h = refl
test_of (x ∷ xs) h = and_from (not (is_among xs x)) (is_distinct xs) (ap not (none_among x xs h.0)) (test_of xs h.1)

pub fact_of : (xs : List (List ℕ)) → is_distinct xs ≡ true → AreDistinct xs
unfolding IsDistinct
fact_of [] h = tt
fact_of (x ∷ xs) h = let parts = and_parts (not (is_among xs x)) (is_distinct xs) h in (each_apart x xs (not-true _ parts.0), fact_of xs parts.1)

false_of : (b : Bool) → (b ≡ true → ⊥) → false ≡ b
false_of true h = absurd (h refl)
false_of false h = refl

pub numbers_are_distinct : (o : Option (List (List ℕ))) (numbers xs : List (List ℕ)) → Numbered o xs → o ≡ Some numbers → true ≡ is_distinct xs
numbers_are_distinct (Some ns) numbers xs h e = sym (test_of xs h.1)
numbers_are_distinct None numbers xs h e = absurd cc

pub none_is_not : (o : Option (List (List ℕ))) (xs : List (List ℕ)) → Numbered o xs → o ≡ None → false ≡ is_distinct xs
none_is_not (Some ns) xs h e = absurd cc
none_is_not None xs h e = false_of (is_distinct xs) (λ t. h (fact_of xs t))
