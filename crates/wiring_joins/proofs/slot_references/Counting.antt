-- Counts over lists that are put together.
use Rattle.std.proofs.Common.{◌≡◌, ◌∙◌, ◌⊎◌, inl, inr, ℕ, zero, suc, ◌+◌, Bool, true, false, cond, List, [], ◌∷◌, ◌++◌, length, map, Some, slice_get, count_by, refl, sym, ap, arith}
use Rattle.std.specs.List.{list_any}
use Rattle.std.proofs.lemmas.Bool.{or_parts}
use Rattle.std.proofs.lemmas.Option.{same_Some}
use Rattle.std.proofs.lemmas.List.Sums.{sum_by-append, sum_by-cons}
use Rattle.wiring_places.specs.place_rules.Parts.{is_child, children_from}
use Rattle.room_wiring.specs.declared.slot.Slot.{Slot}

-- a place of two lists is one of the first or one of the second
pub get_either : {X : Type 0} (xs ys : List X) (i : ℕ) (x : X) → slice_get (xs ++ ys) i ≡ Some x → (slice_get xs i ≡ Some x) ⊎ ((j : ℕ) × (i ≡ length xs + j) × (slice_get ys j ≡ Some x))
get_either [] ys i x e = inr (i, omega arith, e)
get_either (y ∷ xs) ys zero x e = inl e
get_either (y ∷ xs) ys (suc i) x e = elim (get_either xs ys i x e) [
  | inl a ↦ inl a
  | inr b ↦ inr (let at = b.1 in (b.0, omega (arith, at), b.2))
]

pub count_append : {X : Type 0} (test : X → Bool) (xs ys : List X) → count_by test (xs ++ ys) ≡ count_by test xs + count_by test ys
count_append test xs ys = sum_by-append (λ x. cond (test x) 1 0) xs ys

pub count_cons : {X : Type 0} (test : X → Bool) (x : X) (xs : List X) → count_by test (x ∷ xs) ≡ cond (test x) 1 0 + count_by test xs
count_cons test x xs = sum_by-cons (λ y. cond (test y) 1 0) x xs

-- where no item passes there are none
pub count_none : {X : Type 0} (test : X → Bool) (xs : List X) → ((i : ℕ) (x : X) → slice_get xs i ≡ Some x → test x ≡ false) → count_by test xs ≡ 0
count_none test [] never = refl
count_none test (x ∷ xs) never =
    let here = ap {B = ℕ} (λ b. cond b 1 0) (never 0 x refl) in
    let rest = count_none test xs (λ i y e. never (suc i) y e) in
    let both = count_cons test x xs in
    omega (arith, here, rest, both)

-- there are as many children as slots that stand for the reference
pub children_many : (c r n : ℕ) (xs : List Slot) → length (children_from n xs c r) ≡ count_by (is_child c r) xs
children_many c r n [] = refl
children_many c r n (x ∷ xs) = pick (is_child c r x) (children_many c r (n + 1) xs) (count_cons (is_child c r) x xs)
  where
    pick : (b : Bool) → length (children_from (n + 1) xs c r) ≡ count_by (is_child c r) xs → count_by (is_child c r) (x ∷ xs) ≡ cond b 1 0 + count_by (is_child c r) xs → length (cond b (n ∷ children_from (n + 1) xs c r) (children_from (n + 1) xs c r)) ≡ count_by (is_child c r) (x ∷ xs)
    pick true rest both = omega (arith, rest, both)
    pick false rest both = omega (arith, rest, both)

-- none passes, so no one does
pub any_fails : {X : Type 0} (f : X → ℕ) (test : ℕ → Bool) (xs : List X) → list_any test (map f xs) ≡ false → (i : ℕ) (x : X) → slice_get xs i ≡ Some x → test (f x) ≡ false
any_fails f test [] h i x e = absurd cc
any_fails f test (y ∷ ys) h zero x e = ap (λ z. test (f z)) (sym (same_Some y x e)) ∙ (or_parts (test (f y)) (list_any test (map f ys)) h).0
any_fails f test (y ∷ ys) h (suc i) x e = any_fails f test ys (or_parts (test (f y)) (list_any test (map f ys)) h).1 i x e
