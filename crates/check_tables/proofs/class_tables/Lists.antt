-- Lists that loops build.
use Rattle.std.proofs.Common.{◌≡◌, ℕ, ◌+◌, ◌<◌, List, [], ◌∷◌, ◌++◌, length, take, get_or, map, Option, Some, None, refl, sym, ap, ◌∙◌, append_assoc}
use Rattle.std.specs.Prelude.{option_map}
use Rattle.std.specs.List.{filter_map, cons_option}
use Rattle.std.specs.Option.{option_to_list}
use Rattle.std.proofs.lemmas.List.{take_more, map-append}
use Rattle.std.proofs.lemmas.List.Elements.{filter_map-append}

one_mapped : {Y Z : Type 0} (f : Y → Z) (o : Option Y) → map f (cons_option o []) ≡ option_to_list (option_map f o)
one_mapped f (Some y) = refl
one_mapped f None = refl

-- a list that is filtered and mapped, with one more item at its end
mapped_push : {X Y Z : Type 0} (f : Y → Z) (h : X → Option Y) (xs : List X) (x : X) → map f (filter_map h (xs ++ x ∷ [])) ≡ map f (filter_map h xs) ++ option_to_list (option_map f (h x))
mapped_push f h xs x =
    ap (map f) (filter_map-append h xs (x ∷ [])) ∙ map-append f (filter_map h xs) (filter_map h (x ∷ [])) ∙ ap (λ zs. map f (filter_map h xs) ++ zs) (one_mapped f (h x))

-- one more turn of a loop over items that are filtered and mapped
pub mapped_next : {X Y Z : Type 0} (f : Y → Z) (h : X → Option Y) (xs : List X) (i : ℕ) (x : X) (o : Option Z) (old new : List Z) → i < length xs → x ≡ get_or xs i x → o ≡ option_map f (h x) → old ≡ map f (filter_map h (take i xs)) → new ≡ old ++ option_to_list o
    → new ≡ map f (filter_map h (take (i + 1) xs))
mapped_next f h xs i x o old new lt is item so_far more =
    more ∙ ap (λ ys. ys ++ option_to_list o) so_far ∙ ap (λ p. map f (filter_map h (take i xs)) ++ option_to_list p) (item ∙ ap (λ y. option_map f (h y)) is)
    ∙ sym (ap (λ ys. map f (filter_map h ys)) (take_more xs i x lt) ∙ mapped_push f h (take i xs) (get_or xs i x))

-- the same, where the items are seen through a view
pub viewed_next : {W X Y Z : Type 0} (f : Y → Z) (h : X → Option Y) (v : W → X) (xs : List W) (i : ℕ) (x : W) (o : Option Z) (old new : List Z) → i < length xs → x ≡ get_or xs i x → o ≡ option_map f (h (v x)) → old ≡ map f (filter_map h (map v (take i xs))) → new ≡ old ++ option_to_list o
    → new ≡ map f (filter_map h (map v (take (i + 1) xs)))
viewed_next f h v xs i x o old new lt is item so_far more =
    more ∙ ap (λ ys. ys ++ option_to_list o) so_far ∙ ap (λ p. map f (filter_map h (map v (take i xs))) ++ option_to_list p) (item ∙ ap (λ y. option_map f (h (v y))) is)
    ∙ sym (ap (λ ys. map f (filter_map h ys)) (ap (map v) (take_more xs i x lt) ∙ map-append v (take i xs) (get_or xs i x ∷ [])) ∙ mapped_push f h (map v (take i xs)) (v (get_or xs i x)))

one_kept : {Y : Type 0} (o : Option Y) → cons_option o [] ≡ option_to_list o
one_kept (Some y) = refl
one_kept None = refl

-- the same behind other items
pub behind_next : {X Y : Type 0} (front : List Y) (h : X → Option Y) (xs : List X) (i : ℕ) (x : X) (o : Option Y) (old new : List Y) → i < length xs → x ≡ get_or xs i x → o ≡ h x → old ≡ front ++ filter_map h (take i xs) → new ≡ old ++ option_to_list o
    → new ≡ front ++ filter_map h (take (i + 1) xs)
behind_next front h xs i x o old new lt is item so_far more =
    more ∙ ap (λ ys. ys ++ option_to_list o) so_far ∙ ap (λ p. (front ++ filter_map h (take i xs)) ++ option_to_list p) (item ∙ ap h is) ∙ append_assoc front (filter_map h (take i xs)) (option_to_list (h (get_or xs i x)))
    ∙ ap (λ ys. front ++ ys) (ap (λ ys. filter_map h (take i xs) ++ ys) (sym (one_kept (h (get_or xs i x)))) ∙ sym (ap (filter_map h) (take_more xs i x lt) ∙ filter_map-append h (take i xs) (get_or xs i x ∷ [])))

-- the same, of items that are seen through a view
pub picked_next : {W X Y : Type 0} (h : X → Option Y) (v : W → X) (xs : List W) (i : ℕ) (x : W) (o : Option Y) (old new : List Y) → i < length xs → x ≡ get_or xs i x → o ≡ h (v x) → old ≡ filter_map h (map v (take i xs)) → new ≡ old ++ option_to_list o
    → new ≡ filter_map h (map v (take (i + 1) xs))
picked_next h v xs i x o old new lt is item so_far more =
    more ∙ ap (λ ys. ys ++ option_to_list o) so_far ∙ ap (λ p. filter_map h (map v (take i xs)) ++ option_to_list p) (item ∙ ap (λ y. h (v y)) is)
    ∙ ap (λ ys. filter_map h (map v (take i xs)) ++ ys) (sym (one_kept (h (v (get_or xs i x)))))
    ∙ sym (ap (filter_map h) (ap (map v) (take_more xs i x lt) ∙ map-append v (take i xs) (get_or xs i x ∷ [])) ∙ filter_map-append h (map v (take i xs)) (v (get_or xs i x) ∷ []))
