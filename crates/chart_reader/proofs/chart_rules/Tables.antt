-- Counts of steps by the keys of the places where they begin.
use Rattle.std.proofs.Common.{◌≡◌, ℕ, ◌+◌, ◌<◌, ◌≤◌, Bool, true, false, cond, not, List, length, take, get_or, map, option_map, Option, Some, None, refl, sym, ap, ◌∙◌, arith}
use Rattle.std.specs.Prelude.{◌&&◌}
use Rattle.std.specs.List.{count_by}
use Rattle.std.specs.Option.{unwrap_or, is_some}
use Rattle.std.proofs.lemmas.List.{length-take, take_all}
use Rattle.std.proofs.lemmas.List.Folds.{fold-map}
use Rattle.std.proofs.lemmas.List.Sums.{sum_by_more, count_by-le-length}
use lib.Pointwise.{bytes_decides}
use Rattle.name_tables.specs.name_numbers.Names.{same}

same_is : (a b : List ℕ) → same a b ≡ true → a ≡ b
same_is a b e = (bytes_decides a b).0 e

-- ---- a key, counted once more

pub counted_more : (old new : List ℕ → Option ℕ) (key : List ℕ) (n : ℕ) → ((q : List ℕ) → new q ≡ cond (same key q) (Some (n + 1)) (old q)) → n ≡ unwrap_or (old key) 0 → (q : List ℕ) → unwrap_or (new q) 0 ≡ unwrap_or (old q) 0 + cond (same key q) 1 0
counted_more old new key n up is q = go (same key q) refl
  where
    go : (b : Bool) → same key q ≡ b → unwrap_or (new q) 0 ≡ unwrap_or (old q) 0 + cond b 1 0
    go true e =
        let now : new q ≡ Some (n + 1) = up q ∙ ap (λ t. cond t (Some (n + 1)) (old q)) e in
        ap (λ o. unwrap_or o 0) now ∙ ap (λ k. k + 1) (is ∙ ap (λ x. unwrap_or (old x) 0) (same_is key q e))
    go false e =
        let now : new q ≡ old q = up q ∙ ap (λ t. cond t (Some (n + 1)) (old q)) e in
        ap (λ o. unwrap_or o 0) now ∙ omega arith

without : {A B : Type 0} (f : A → B) (o : Option A) (b : Bool) → b ≡ is_some o → b ≡ false → not (is_some (option_map f o)) ≡ true
without f None b e h = refl
without f (Some x) true e h = absurd cc
without f (Some x) false e h = absurd cc

given : {A B : Type 0} (f : A → B) (o : Option A) (b : Bool) → b ≡ is_some o → b ≡ true → not (is_some (option_map f o)) ≡ false
given f None true e h = absurd cc
given f None false e h = absurd cc
given f (Some x) b e h = refl

and_so : (t b : Bool) → b ≡ true → t ≡ (t && b)
and_so true true e = refl
and_so false true e = refl
and_so t false e = absurd cc

-- a step without a condition is counted
pub plain_counted : {A B : Type 0} (f : A → B) (o : Option A) (b : Bool) (old new : List ℕ → ℕ) (key : List ℕ) → b ≡ is_some o → b ≡ false → ((q : List ℕ) → new q ≡ old q + cond (same key q) 1 0) → (q : List ℕ) → new q ≡ old q + cond (same key q && not (is_some (option_map f o))) 1 0
plain_counted f o b old new key e h more q = more q ∙ ap (λ t. old q + cond t 1 0) (and_so (same key q) (not (is_some (option_map f o))) (without f o b e h))

none_more : (n : ℕ) (t b : Bool) → b ≡ false → n ≡ n + cond (t && b) 1 0
none_more n true false e = omega arith
none_more n false false e = omega arith
none_more n t true e = absurd cc

-- a step with one is not
pub plain_passed : {A B : Type 0} (f : A → B) (o : Option A) (b : Bool) (old : List ℕ → ℕ) (key : List ℕ) → b ≡ is_some o → b ≡ true → (q : List ℕ) → old q ≡ old q + cond (same key q && not (is_some (option_map f o))) 1 0
plain_passed f o b old key e h q = none_more (old q) (same key q) (not (is_some (option_map f o))) (given f o b e h)

-- ---- items of a list, counted in turn

pub counted_next : {A : Type 0} (test : A → Bool) (xs : List A) (i : ℕ) (x : A) (old new : ℕ) → i < length xs → x ≡ get_or xs i x → old ≡ count_by test (take i xs) → new ≡ old + cond (test x) 1 0 → new ≡ count_by test (take (i + 1) xs)
counted_next test xs i x old new lt is so_far more =
    more ∙ ap (λ n. n + cond (test x) 1 0) so_far ∙ ap (λ y. count_by test (take i xs) + cond (test y) 1 0) is ∙ sym (sum_by_more (λ y. cond (test y) 1 0) xs i x lt)

-- no more than were gone through
pub counted_few : {A : Type 0} (test : A → Bool) (xs : List A) (i n : ℕ) → i < length xs → n ≡ count_by test (take i xs) → n ≤ i
counted_few test xs i n lt e = omega (arith, e, count_by-le-length test (take i xs), length-take i xs)

-- all of them
pub counted_all : {A B : Type 0} (test : B → Bool) (v : A → B) (xs : List A) (i n : ℕ) → length xs ≤ i → n ≡ count_by (λ x. test (v x)) (take i xs) → n ≡ count_by test (map v xs)
counted_all test v xs i n le e =
    e ∙ ap (count_by (λ x. test (v x))) (take_all i xs le) ∙ sym (fold-map (λ (a : ℕ) y. a + cond (test y) 1 0) v 0 xs)
