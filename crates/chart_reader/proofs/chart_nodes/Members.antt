-- Members of lists, by cases.
use Rattle.std.proofs.Common.{◌≡◌, ◌⊎◌, inl, inr, zero, suc, Bool, true, false, cond, List, [], ◌∷◌, map, refl, sym, ap, subst, arith}
use Rattle.std.specs.Prelude.{◌||◌}
use Rattle.std.specs.List.{Contains, filter, list_any}

-- y is an element of the list
abbrev pub In : {X : Type 0} → List X → X → Type 0
In [] y = ⊥
In (x ∷ xs) y = (x ≡ y) ⊎ In xs y

pub In-from_Contains : {X : Type 0} (xs : List X) (y : X) → Contains xs y → In xs y
In-from_Contains [] y (k, h, e) = absurd (omega arith)
In-from_Contains (x ∷ xs) y (zero, h, e) = inl e
In-from_Contains (x ∷ xs) y (suc k, h, e) = inr (In-from_Contains xs y (k, omega arith, e))

pub Contains-from_In : {X : Type 0} (xs : List X) (y : X) → In xs y → Contains xs y
Contains-from_In [] y h = absurd h
Contains-from_In (x ∷ xs) y (inl e) = (0, omega arith, e)
Contains-from_In (x ∷ xs) y (inr h) = let c = Contains-from_In xs y h in (suc c.0, omega (arith, c.1), c.2)

-- an element that passes a test, and what is made of it
abbrev Makes : {X Y : Type 0} (f : X → Y) (p : X → Bool) (xs : List X) (y : Y) → Type 0
Makes {X} f p xs y = (x : X) × In xs x × (p x ≡ true) × (f x ≡ y)

made_next : {X Y : Type 0} (f : X → Y) (p : X → Bool) (z : X) (xs : List X) (y : Y) → Makes f p xs y → Makes f p (z ∷ xs) y
made_next f p z xs y r = (r.0, inr r.1, r.2, r.3)

made_split : {X Y : Type 0} (f : X → Y) (p : X → Bool) (x : X) (xs : List X) (y : Y) (b : Bool) → p x ≡ b → (In (map f (filter p xs)) y → Makes f p xs y) → In (map f (cond b (x ∷ filter p xs) (filter p xs))) y → Makes f p (x ∷ xs) y
made_split f p x xs y true e again (inl s) = (x, inl refl, e, s)
made_split f p x xs y true e again (inr s) = made_next f p x xs y (again s)
made_split f p x xs y false e again s = made_next f p x xs y (again s)

-- what passes a test and is changed comes from an element that passes it
pub In-made : {X Y : Type 0} (f : X → Y) (p : X → Bool) (xs : List X) (y : Y) → In (map f (filter p xs)) y → (x : X) × In xs x × (p x ≡ true) × (f x ≡ y)
In-made f p [] y h = absurd h
In-made f p (x ∷ xs) y h = made_split f p x xs y (p x) refl (In-made f p xs y) h

make_split : {X Y : Type 0} (f : X → Y) (p : X → Bool) (z : X) (xs : List X) (x : X) (b : Bool) → p z ≡ b → p x ≡ true → (In xs x → In (map f (filter p xs)) (f x)) → In (z ∷ xs) x → In (map f (cond b (z ∷ filter p xs) (filter p xs))) (f x)
make_split f p z xs x true t e again (inl s) = inl (ap f s)
make_split f p z xs x true t e again (inr s) = inr (again s)
make_split f p z xs x false t e again (inl s) = let u : p z ≡ true = subst (λ w. p w ≡ true) (sym s) e in absurd cc
make_split f p z xs x false t e again (inr s) = again s

pub In-make : {X Y : Type 0} (f : X → Y) (p : X → Bool) (xs : List X) (x : X) → In xs x → p x ≡ true → In (map f (filter p xs)) (f x)
In-make f p [] x h e = absurd h
In-make f p (z ∷ xs) x h e = make_split f p z xs x (p z) refl e (λ i. In-make f p xs x i e) h

any_split : {X : Type 0} (p : X → Bool) (x : X) (xs : List X) (b : Bool) → p x ≡ b → (list_any p xs ≡ true → (z : X) × In xs z × (p z ≡ true)) → (b || list_any p xs) ≡ true → (z : X) × In (x ∷ xs) z × (p z ≡ true)
any_split p x xs true e again t = (x, inl refl, e)
any_split p x xs false e again t = let r = again t in (r.0, inr r.1, r.2)

-- a test that some element passes
pub any_In : {X : Type 0} (p : X → Bool) (xs : List X) → list_any p xs ≡ true → (x : X) × In xs x × (p x ≡ true)
any_In p [] h = absurd cc
any_In p (x ∷ xs) h = any_split p x xs (p x) refl (any_In p xs) h

or_true : (b : Bool) → (b || true) ≡ true
or_true true = refl
or_true false = refl

pub In_any : {X : Type 0} (p : X → Bool) (xs : List X) (x : X) → In xs x → p x ≡ true → list_any p xs ≡ true
In_any p [] x h e = absurd h
In_any p (z ∷ xs) x (inl s) e = let u : p z ≡ true = subst (λ w. p w ≡ true) (sym s) e in rw u refl
In_any p (z ∷ xs) x (inr s) e = rw (In_any p xs x s e) (or_true (p z))
