-- A list that is written place by place.
use Rattle.std.proofs.Common.{◌≡◌, ℕ, ◌+◌, ◌<◌, List, [], ◌∷◌, ◌++◌, get_or, map, take, drop, length, sym, ap, ◌∙◌, arith}
use Rattle.std.specs.Prelude.{slice_set}
use Rattle.std.proofs.lemmas.List.{take_more, take_more_set, drop_more, drop-set-lt, map-append}
use Rattle.std.proofs.lemmas.Grind.{drop_more_same}

-- the places written so far have the new values, and the others are as they were
abbrev pub IsWrittenTo : {A : Type 0} → (A → A) → List A → List A → ℕ → Type 0
IsWrittenTo f now old i = (take i now ≡ map f (take i old)) × (drop i now ≡ drop i old)

pub written_on : {A : Type 0} (f : A → A) (now old : List A) (i : ℕ) (x y : A) → i < length old → length now ≡ length old → x ≡ get_or now i x → y ≡ f x
    → IsWrittenTo f now old i → IsWrittenTo f (slice_set now i y) old (i + 1)
written_on {A = A} f now old i x y lt same is new h =
    let in_now : i < length now = omega arith in
    let heads : get_or now i x ∷ drop (i + 1) now ≡ get_or old i x ∷ drop (i + 1) old = sym (drop_more now i x in_now) ∙ h.1 ∙ drop_more old i x lt in
    let was : x ≡ get_or old i x = cc in
    let front : take (i + 1) (slice_set now i y) ≡ map f (take i old) ++ f (get_or old i x) ∷ [] =
    take_more_set now i y in_now ∙ ap (λ ys. ys ++ y ∷ []) h.0 ∙ ap (λ (z : A). map f (take i old) ++ z ∷ []) (new ∙ ap f was) in (
      front ∙ sym (ap (map f) (take_more old i x lt) ∙ map-append f (take i old) (get_or old i x ∷ [])),
      drop-set-lt (i + 1) now i y (omega arith) ∙ drop_more_same now old i h.1,
    )
