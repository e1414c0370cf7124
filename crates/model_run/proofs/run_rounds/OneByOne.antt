-- Steps at numbers one after another.
use Rattle.std.proofs.Common.{◌≡◌, ℕ, ◌+◌, ◌<◌, ◌≤◌, inl, inr, List, set, length, slice_get, Some, refl, sym, ap, ◌∙◌, subst, arith}
use Rattle.std.proofs.lemmas.Bool.{cases_eq, cases_lt}
use Rattle.std.proofs.lemmas.List.{get_or-set_same, get_or-set_other, length-set}
use Rattle.std.proofs.lemmas.Option.{slice_get_past, slice_get-get_or}
use Rattle.model_run.specs.run_rounds.OneByOne.{StepsBelow}

pub steps_none : {X : Type 0} (R : ℕ → X → X → Type 0) (old : ℕ → X) → StepsBelow R 0 old old
steps_none R old = record { below = λ c h. absurd (omega arith); above = λ c h. refl }

pub steps_one : {X : Type 0} (R : ℕ → X → X → Type 0) (i : ℕ) (old mid new : ℕ → X) → StepsBelow R i old mid → R i (mid i) (new i)
    → ((c : ℕ) → (c ≡ i → ⊥) → new c ≡ mid c) → StepsBelow R (i + 1) old new
steps_one R i old mid new s here others = record {
  below = λ c h. elim (cases_eq c i) [
    | inl same ↦
        let now : R i (old i) (new i) = subst (λ z. R i z (new i)) (s.above i (omega arith)) here in
        subst (λ (z : ℕ). R z (old z) (new z)) (sym same) now
    | inr other ↦ subst (λ z. R c (old c) z) (sym (others c other)) (s.below c (omega arith))
  ];
  above = λ c h. others c (λ e. absurd (omega arith)) ∙ s.above c (omega arith);
}

-- one element of a list replaced
pub slice_get-other : {X : Type 0} (xs : List X) (i c : ℕ) (x : X) → (c ≡ i → ⊥) → slice_get (set xs i x) c ≡ slice_get xs c
slice_get-other xs i c x other = elim (cases_lt c (length xs)) [
  | inl within ↦
      let inside : c < length (set xs i x) = rw length-set within in
      slice_get-get_or (set xs i x) c x inside ∙ ap Some (get_or-set_other xs i c x x other) ∙ sym (slice_get-get_or xs c x within)
  | inr past ↦
      let outside : length (set xs i x) ≤ c = rw length-set past in
      slice_get_past (set xs i x) c outside ∙ sym (slice_get_past xs c past)
]

pub slice_get-same : {X : Type 0} (xs : List X) (i : ℕ) (x : X) → i < length xs → slice_get (set xs i x) i ≡ Some x
slice_get-same xs i x h =
    let inside : i < length (set xs i x) = rw length-set h in
    slice_get-get_or (set xs i x) i x inside ∙ ap Some (get_or-set_same xs i x x h)
