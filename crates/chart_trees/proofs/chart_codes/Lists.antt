-- Lists and tests that loops build, behind a first item.
use Rattle.std.proofs.Common.{◌≡◌, ℕ, ◌+◌, ◌<◌, Bool, true, false, List, [], ◌∷◌, ◌++◌, length, take, get_or, map, refl, sym, ap, ◌∙◌}
use Rattle.std.specs.Prelude.{◌&&◌}
use Rattle.std.specs.List.{list_all}
use Rattle.std.proofs.lemmas.List.{take_more, map-append}

-- one more item at the end of a list that is mapped
pub mapped_next : {X Z : Type 0} (f : X → Z) (first : X) (xs : List X) (i : ℕ) (x : X) (old new : List Z) → i < length xs → x ≡ get_or xs i x → old ≡ map f (first ∷ take i xs) → new ≡ old ++ f x ∷ [] → new ≡ map f (first ∷ take (i + 1) xs)
mapped_next f first xs i x old new lt is so_far more =
    more ∙ ap (λ ys. ys ++ f x ∷ []) so_far ∙ ap (λ y. map f (first ∷ take i xs) ++ f y ∷ []) is
    ∙ sym (ap (λ ys. map f (first ∷ ys)) (take_more xs i x lt) ∙ ap (λ ys. f first ∷ ys) (map-append f (take i xs) (get_or xs i x ∷ [])))

and_assoc : (a b c : Bool) → ((a && b) && c) ≡ (a && (b && c))
and_assoc true b c = refl
and_assoc false b c = refl

and_true : (b : Bool) → b ≡ (b && true)
and_true true = refl
and_true false = refl

all_more : {X : Type 0} (p : X → Bool) (xs : List X) (x : X) → list_all p (xs ++ x ∷ []) ≡ (list_all p xs && p x)
all_more p [] x = sym (and_true (p x))
all_more p (y ∷ ys) x = ap (λ b. p y && b) (all_more p ys x) ∙ sym (and_assoc (p y) (list_all p ys) (p x))

-- nothing that is tested
pub still : (b : Bool) → b ≡ (b && true)
still b = and_true b

-- a first item that is tested
pub all_first : {X : Type 0} (p : X → Bool) (first : X) (before : Bool) → (before && p first) ≡ (before && list_all p (first ∷ []))
all_first p first before = ap (λ b. before && b) (and_true (p first))

-- one more item at the end of a list that is tested
pub all_next : {X : Type 0} (p : X → Bool) (first : X) (xs : List X) (i : ℕ) (x : X) (before old new : Bool) → i < length xs → x ≡ get_or xs i x → old ≡ (before && list_all p (first ∷ take i xs)) → new ≡ (old && p x) → new ≡ (before && list_all p (first ∷ take (i + 1) xs))
all_next p first xs i x before old new lt is so_far more =
    more ∙ ap (λ b. b && p x) so_far ∙ ap (λ y. (before && list_all p (first ∷ take i xs)) && p y) is
    ∙ and_assoc before (list_all p (first ∷ take i xs)) (p (get_or xs i x))
    ∙ ap (λ b. before && b) (sym (ap (λ ys. list_all p (first ∷ ys)) (take_more xs i x lt) ∙ all_more p (first ∷ take i xs) (get_or xs i x)))
