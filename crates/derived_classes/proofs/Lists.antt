-- Lists and what stands in them.
use Rattle.std.proofs.Common.{◌≡◌, ℕ, zero, suc, ◌<◌, ◌≤◌, List, [], ◌∷◌, length, map, Option, Some, None, refl, sym, ap, arith}
use Rattle.std.specs.Prelude.{slice_get}

pub none_some : {A B : Type 0} (x : A) → ◌≡◌ {A = Option A} None (Some x) → B
none_some x e = cc

pub some_same : {A : Type 0} (x y : A) → Some x ≡ Some y → x ≡ y
some_same x y e = cc

pub mapped_length : {A B : Type 0} (f : A → B) (xs : List A) → length (map f xs) ≡ length xs
mapped_length f [] = refl
mapped_length f (x ∷ xs) = ap suc (mapped_length f xs)

pub got_within : {A : Type 0} (xs : List A) (i : ℕ) (x : A) → slice_get xs i ≡ Some x → i < length xs
got_within [] i x e = none_some x e
got_within (y ∷ ys) zero x e = omega arith
got_within (y ∷ ys) (suc i) x e = let less : i < length ys = got_within ys i x e in omega (arith, less)

pub got_past : {A : Type 0} (xs : List A) (i : ℕ) → length xs ≤ i → slice_get xs i ≡ None
got_past [] i le = refl
got_past (y ∷ ys) zero le = absurd (omega arith)
got_past (y ∷ ys) (suc i) le = got_past ys i (omega arith)

pub none_past : {A : Type 0} (xs : List A) (i : ℕ) → slice_get xs i ≡ None → length xs ≤ i
none_past [] i e = omega arith
none_past (y ∷ ys) zero e = none_some y (sym e)
none_past (y ∷ ys) (suc i) e = let rest : length ys ≤ i = none_past ys i e in omega (arith, rest)
