-- Lists that hold of each element, and which numbers they have.
use Rattle.std.proofs.Common.{◌≡◌, ℕ, zero, suc, ◌+◌, ◌<◌, ◌≤◌, ◌==◌, ◌&&◌, ◌||◌, Bool, true, false, cond, List, [], ◌∷◌, ◌++◌, map, filter, flat_map, reverse, refl, ap, ◌∙◌, eq-eqb, eqb-true, arith, ◌⊎◌, inl, inr}
use mathlib.Core.List.{reverse_aux}
use Rattle.std.specs.List.{AllByRecursion, list_any, range_with_len}
use Rattle.std.proofs.lemmas.Bool.{cases_eq}
use Rattle.std.proofs.lemmas.Map.Views.{any-filter_same}

pub all_append : {X : Type 0} (P : X → Type 0) (a b : List X) → AllByRecursion P a → AllByRecursion P b → AllByRecursion P (a ++ b)
all_append P [] b h k = k
all_append P (x ∷ a) b h k = (h.0, all_append P a b h.1 k)

pub all_later : {X : Type 0} (P : X → Type 0) (a b : List X) → AllByRecursion P (a ++ b) → AllByRecursion P b
all_later P [] b h = h
all_later P (x ∷ a) b h = all_later P a b h.1

pub all_before : {X : Type 0} (P : X → Type 0) (a b : List X) → AllByRecursion P (a ++ b) → AllByRecursion P a
all_before P [] b h = tt
all_before P (x ∷ a) b h = (h.0, all_before P a b h.1)

pub all_filter : {X : Type 0} (P : X → Type 0) (p : X → Bool) (xs : List X) → AllByRecursion P xs → AllByRecursion P (filter p xs)
all_filter P p [] h = tt
all_filter P p (x ∷ xs) h = go (p x) (all_filter P p xs h.1)
  where
    go : (b : Bool) → AllByRecursion P (filter p xs) → AllByRecursion P (cond b (x ∷ filter p xs) (filter p xs))
    go true k = (h.0, k)
    go false k = k

-- what passes a test has what the test means
pub all_passed : {X : Type 0} (P : X → Type 0) (p : X → Bool) → ((x : X) → p x ≡ true → P x) → (xs : List X) → AllByRecursion P (filter p xs)
all_passed P p h [] = tt
all_passed P p h (x ∷ xs) = go (p x) refl (all_passed P p h xs)
  where
    go : (b : Bool) → p x ≡ b → AllByRecursion P (filter p xs) → AllByRecursion P (cond b (x ∷ filter p xs) (filter p xs))
    go true e k = (h x e, k)
    go false e k = k

all_onto : {X : Type 0} (P : X → Type 0) (xs acc : List X) → AllByRecursion P xs → AllByRecursion P acc → AllByRecursion P (reverse_aux xs acc)
all_onto P [] acc h k = k
all_onto P (x ∷ xs) acc h k = all_onto P xs (x ∷ acc) h.1 (h.0, k)

pub all_reverse : {X : Type 0} (P : X → Type 0) (xs : List X) → AllByRecursion P xs → AllByRecursion P (reverse xs)
all_reverse P xs h = all_onto P xs [] h tt

pub all_flat : {X Y : Type 0} (P : Y → Type 0) (Q : X → Type 0) (f : X → List Y) → ((x : X) → Q x → AllByRecursion P (f x)) → (xs : List X) → AllByRecursion Q xs
    → AllByRecursion P (flat_map f xs)
all_flat P Q f h [] k = tt
all_flat P Q f h (x ∷ xs) k = all_append P (f x) (flat_map f xs) (h x k.0) (all_flat P Q f h xs k.1)

pub all_map : {X Y : Type 0} (P : Y → Type 0) (f : X → Y) → ((x : X) → P (f x)) → (xs : List X) → AllByRecursion P (map f xs)
all_map P f h [] = tt
all_map P f h (x ∷ xs) = (h x, all_map P f h xs)

pub all_unit : {X : Type 0} (xs : List X) → AllByRecursion (λ (x : X). Unit {0}) xs
all_unit [] = tt
all_unit (x ∷ xs) = (tt, all_unit xs)

-- where no element passes a test, no element is left
pub filter_none : {X : Type 0} (p : X → Bool) (xs : List X) → AllByRecursion (λ x. p x ≡ false) xs → filter p xs ≡ []
filter_none p [] h = refl
filter_none p (x ∷ xs) h = rw h.0 (filter_none p xs h.1)

pub flat_after_map : {X Y Z : Type 0} (f : Y → List Z) (g : X → Y) (xs : List X) → flat_map f (map g xs) ≡ flat_map (λ x. f (g x)) xs
flat_after_map f g [] = refl
flat_after_map f g (x ∷ xs) = ap (λ z. f (g x) ++ z) (flat_after_map f g xs)

-- whether a number is in a list
abbrev pub has : ℕ → List ℕ → Bool
has n xs = list_any (λ k. k == n) xs

or_true : (b : Bool) → (b || true) ≡ true
or_true true = refl
or_true false = refl

pub has_range : (n a k : ℕ) → a ≤ n → n < a + k → has n (range_with_len a k) ≡ true
has_range n a zero h l = absurd (omega arith)
has_range n a (suc k) h l = go (cases_eq a n) (has_range n (a + 1) k)
  where
    go : (a ≡ n) ⊎ (a ≡ n → ⊥) → (a + 1 ≤ n → n < (a + 1) + k → has n (range_with_len (a + 1) k) ≡ true) → ((a == n) || has n (range_with_len (a + 1) k)) ≡ true
    go (inl e) ih = rw (eq-eqb a n e) refl
    go (inr f) ih = rw (ih (omega arith) (omega arith)) (or_true (a == n))

pub has_filter : (p : ℕ → Bool) (n : ℕ) (xs : List ℕ) → has n (filter p xs) ≡ (p n && has n xs)
has_filter p n xs = any-filter_same (λ k. k == n) p (p n) (λ k e. ap p (eqb-true k n e)) xs

or_swap : (a b c : Bool) → (a || (b || c)) ≡ ((b || a) || c)
or_swap true true c = refl
or_swap true false c = refl
or_swap false true c = refl
or_swap false false c = refl

has_onto : (n : ℕ) (xs acc : List ℕ) → has n (reverse_aux xs acc) ≡ (has n xs || has n acc)
has_onto n [] acc = refl
has_onto n (x ∷ xs) acc = has_onto n xs (x ∷ acc) ∙ or_swap (has n xs) (x == n) (has n acc)

or_none : (b : Bool) → (b || false) ≡ b
or_none true = refl
or_none false = refl

pub has_reverse : (n : ℕ) (xs : List ℕ) → has n (reverse xs) ≡ has n xs
has_reverse n xs = has_onto n xs [] ∙ or_none (has n xs)
