-- One list of an end grows.
use Rattle.std.proofs.Common.{ℕ, ◌+◌, ◌-◌, ◌*◌, ◌^◌, ◌<◌, ◌≤◌, ◌≡◌, inl, inr, List, [], ◌∷◌, ◌++◌, length, get_or, set, slice_index, sym, ap, subst, ◌∙◌, arith, min, ltb}
use Rattle.std.proofs.lemmas.Grind.{common_steps}
use Rattle.std.proofs.lemmas.Bool.{cases_eq, cases_lt, cond-true, cond-false, lt-ltb, le-ltb}
use Rattle.std.proofs.lemmas.Nat.{same_from_place}
use Rattle.std.proofs.lemmas.List.{get_or-set_same, get_or-set_other}
use mathlib.Core.Path.{fun_ext}
use Rattle.room_kinds.specs.declared.message.Msg.{Msg}
use Rattle.mail_core.specs.EndLog.{gained, looked}
use Rattle.mail_core.specs.Lanes.{list_of}
use Rattle.mail_core.proofs.LaneLemmas.{gained-same, gained-other}

pub list_of-within : (lists : List (List Msg)) (k p : ℕ) → p < 6 → list_of lists k p ≡ get_or lists (k * 6 + p) []
list_of-within lists k p h = cond-true (ltb p 6) _ [] (lt-ltb p 6 h)

pub list_of-beyond : (lists : List (List Msg)) (k p : ℕ) → 6 ≤ p → list_of lists k p ≡ []
list_of-beyond lists k p h = cond-false (ltb p 6) _ [] (le-ltb p 6 h)

gained-list_of : (lists : List (List Msg)) (k p : ℕ) (m : Msg) → p < 6 → k * 6 + p < length lists → (k' p' : ℕ) →
    list_of (set lists (k * 6 + p) (get_or lists (k * 6 + p) [] ++ m ∷ [])) k' p' ≡ gained (list_of lists) k p m k' p'
gained-list_of lists k p m b h k' p' = elim (cases_lt p' 6) [
  | inr past ↦ list_of-beyond _ k' p' past ∙ sym (list_of-beyond lists k' p' past) ∙ sym (gained-other (list_of lists) k p k' p' m (λ (e, g). absurd (omega arith)))
  | inl within ↦ list_of-within _ k' p' within ∙ elim (cases_eq (k' * 6 + p') (k * 6 + p)) [
    | inl same ↦
        let both = same_from_place k' p' k p 6 within b same in
        subst (λ i. get_or (set lists (k * 6 + p) (get_or lists (k * 6 + p) [] ++ m ∷ [])) i [] ≡ get_or lists i [] ++ m ∷ []) (sym same) (get_or-set_same lists (k * 6 + p) _ [] h)
        ∙ ap (λ ms. ms ++ m ∷ []) (sym (list_of-within lists k' p' within))
        ∙ sym (gained-same (list_of lists) k p k' p' m both.0 both.1)
    | inr other ↦ get_or-set_other lists (k * 6 + p) (k' * 6 + p') _ [] other
        ∙ sym (list_of-within lists k' p' within)
        ∙ sym (gained-other (list_of lists) k p k' p' m (λ (e, g). other (ap (λ x. x * 6 + p') e ∙ ap (λ y. k * 6 + y) g)))
  ]
]

-- the list at one place has a message more
pub list_of-gain : (lists : List (List Msg)) (k p : ℕ) (m : Msg) → p < 6 → k * 6 + p < length lists →
    list_of (set lists (k * 6 + p) (get_or lists (k * 6 + p) [] ++ m ∷ [])) ≡ gained (list_of lists) k p m
list_of-gain lists k p m b h = fun_ext (λ k'. fun_ext (λ p'. gained-list_of lists k p m b h k' p'))

-- one look more
pub slice_index-look : (looks : List ℕ) (b : ℕ) → b < length looks → slice_index (set looks b (min (get_or looks b 0 + 1) (2 ^ 64 - 1))) ≡ looked (slice_index looks) b
slice_index-look looks b h = fun_ext (λ b'. elim (cases_eq b' b) [
  | inl same ↦ grind (arith, common_steps)
  | inr other ↦ grind (arith, common_steps)
])

pub ruleset list_steps = (list_of-gain, slice_index-look, list_of-within)
