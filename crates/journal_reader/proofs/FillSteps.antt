-- Steps of the loops that fill outlines.
use Rattle.std.proofs.Common.{◌≡◌, ℕ, ◌+◌, ◌<◌, ◌≤◌, List, [], ◌∷◌, ◌++◌, length, get_or, take, map, sym, ap, ◌∙◌}
use Rattle.std.proofs.lemmas.List.{take_all, map-append}
use Rattle.tied_journals.proofs.TableSteps.{take_next}

-- one more item
pub mapped_step : {A B : Type 0} (f : A → B) (xs : List A) (i : ℕ) (x : A) (ys zs : List B) (y : B)
    → i < length xs → x ≡ get_or xs i x → ys ≡ map f (take i xs) → y ≡ f x → zs ≡ ys ++ y ∷ [] → zs ≡ map f (take (i + 1) xs)
mapped_step f xs i x ys zs y h at is one new =
    new ∙ ap (λ l. l ++ y ∷ []) is ∙ ap (λ z. map f (take i xs) ++ z ∷ []) one
    ∙ sym (map-append f (take i xs) (x ∷ [])) ∙ ap (map f) (sym (take_next xs i x h at))

-- all items
pub mapped_all : {A B : Type 0} (f : A → B) (xs : List A) (i : ℕ) (ys : List B) → length xs ≤ i → ys ≡ map f (take i xs) → ys ≡ map f xs
mapped_all f xs i ys h is = is ∙ ap (map f) (take_all i xs h)
