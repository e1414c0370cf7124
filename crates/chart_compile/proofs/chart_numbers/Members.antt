-- Places in lists, and what they hold.
use Rattle.std.proofs.Common.{◌≡◌, ◌⊎◌, inl, inr, ℕ, zero, suc, ◌<◌, Bool, true, false, cond, List, [], ◌∷◌, ◌++◌, length, refl, ap, subst, arith, Some}
use Rattle.std.specs.Prelude.{slice_get}
use Rattle.std.specs.List.{filter}
use Rattle.chart_reader.proofs.chart_nodes.Members.{In}

pub In-slice_get : {A : Type 0} (xs : List A) (i : ℕ) (x : A) → slice_get xs i ≡ Some x → In xs x
In-slice_get [] i x e = absurd cc
In-slice_get (y ∷ xs) zero x e = inl (let s : y ≡ x = cc in s)
In-slice_get (y ∷ xs) (suc i) x e = inr (In-slice_get xs i x e)

-- the place of an element
pub place_of : {A : Type 0} (xs : List A) (x : A) → In xs x → (i : ℕ) × (slice_get xs i ≡ Some x)
place_of [] x h = absurd h
place_of (y ∷ xs) x (inl e) = (zero, ap Some e)
place_of (y ∷ xs) x (inr h) = let r = place_of xs x h in (suc r.0, r.1)

filter_split : {A : Type 0} (p : A → Bool) (x : A) (xs : List A) (y : A) (b : Bool) → p x ≡ b → (In (filter p xs) y → In xs y × (p y ≡ true)) → In (cond b (x ∷ filter p xs) (filter p xs)) y → In (x ∷ xs) y × (p y ≡ true)
filter_split p x xs y true e again (inl s) = (inl s, subst (λ z. p z ≡ true) s e)
filter_split p x xs y true e again (inr h) = let r = again h in (inr r.0, r.1)
filter_split p x xs y false e again h = let r = again h in (inr r.0, r.1)

-- what a filter keeps is there, and passes
pub In-filter : {A : Type 0} (p : A → Bool) (xs : List A) (y : A) → In (filter p xs) y → In xs y × (p y ≡ true)
In-filter p [] y h = absurd h
In-filter p (x ∷ xs) y h = filter_split p x xs y (p x) refl (In-filter p xs y) h

-- the item at a place before the end of the first of two lists, at the end, and after
pub get_first : {A : Type 0} (xs ys : List A) (i : ℕ) (x : A) → slice_get xs i ≡ Some x → slice_get (xs ++ ys) i ≡ Some x
get_first [] ys i x e = absurd cc
get_first (y ∷ xs) ys zero x e = e
get_first (y ∷ xs) ys (suc i) x e = get_first xs ys i x e

-- an item of a list with one more at its end
pub get_pushed : {A : Type 0} (xs : List A) (y : A) (i : ℕ) (x : A) → slice_get (xs ++ y ∷ []) i ≡ Some x → ((i < length xs) × (slice_get xs i ≡ Some x)) ⊎ ((i ≡ length xs) × (y ≡ x))
get_pushed [] y zero x e = inr (refl, let s : y ≡ x = cc in s)
get_pushed [] y (suc i) x e = absurd cc
get_pushed (z ∷ xs) y zero x e = inl (omega arith, e)
get_pushed (z ∷ xs) y (suc i) x e = elim (get_pushed xs y i x e) [ inl h ↦ inl (omega arith, h.1) | inr h ↦ inr (ap suc h.0, h.1) ]
