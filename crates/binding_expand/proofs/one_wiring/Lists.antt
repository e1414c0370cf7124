-- Lists that have the same items at each place.
use Rattle.std.proofs.Common.{◌≡◌, ◌∙◌, ℕ, zero, suc, ◌<◌, ◌≤◌, List, [], ◌∷◌, length, Some, None, refl, ap, arith}
use Rattle.std.specs.Prelude.{All, slice_get, slice_index_or}
use Rattle.std.proofs.lemmas.List.Elements.{All-head, All-tail}

-- lists with the same item at each place are the same
pub same_list : {A : Type 0} (xs ys : List A) → ((i : ℕ) → slice_get xs i ≡ slice_get ys i) → xs ≡ ys
same_list [] [] h = refl
same_list [] (y ∷ ys) h = absurd (let e = h 0 in cc)
same_list (x ∷ xs) [] h = absurd (let e = h 0 in cc)
same_list (x ∷ xs) (y ∷ ys) h =
    let first = h 0 in
    let same : x ≡ y = cc in
    let rest : xs ≡ ys = same_list xs ys (λ i. h (suc i)) in
    ap (λ z. z ∷ xs) same ∙ ap (λ zs. y ∷ zs) rest

-- past the end of a list there is nothing
pub past : {A : Type 0} (xs : List A) (i : ℕ) → length xs ≤ i → slice_get xs i ≡ None
past [] i le = refl
past (x ∷ xs) zero le = absurd (omega arith)
past (x ∷ xs) (suc i) le = past xs i (omega arith)

-- where there is nothing, the list has ended
pub ended : {A : Type 0} (xs : List A) (i : ℕ) → slice_get xs i ≡ None → length xs ≤ i
ended [] i e = omega arith
ended (x ∷ xs) zero e = absurd cc
ended (x ∷ xs) (suc i) e = let h = ended xs i e in omega (arith, h)

-- within a list there is the item that a look-up gives
pub got : {A : Type 0} (xs : List A) (i : ℕ) (d : A) → i < length xs → slice_get xs i ≡ Some (slice_index_or xs i d)
got [] i d lt = absurd (omega arith)
got (x ∷ xs) zero d lt = refl
got (x ∷ xs) (suc i) d lt = got xs i d (omega arith)

pub at_place : {A : Type 0} (P : A → Type 0) (xs : List A) (i : ℕ) (d : A) → All P xs → i < length xs → P (slice_index_or xs i d)
at_place P [] i d h lt = absurd (omega arith)
at_place P (x ∷ xs) zero d h lt = All-head P x xs h
at_place P (x ∷ xs) (suc i) d h lt = at_place P xs i d (All-tail P x xs h) (omega arith)
