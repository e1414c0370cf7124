-- What the commands on imports find.
use Rattle.std.proofs.Common.{◌≡◌, ℕ, ◌<◌, ◌≤◌, false, cond, not, ◌||◌, length, ℤ, Option, Some, None, refl, sym, ap, ◌∙◌, arith, inl, inr}
use Rattle.std.specs.Option.{option_map_or}
use Rattle.std.proofs.lemmas.Bool.{cases_lt, lt-ltb, le-ltb}
use Rattle.std.proofs.lemmas.Option.{slice_get_within}
use Rattle.room_kinds.specs.declared.numbers.Incarnation.{Incarnation}
use Rattle.room_wiring.specs.declared.tables.Tables.{Tables}
use Rattle.room_wiring.specs.declared.slot.Slot.{Slot}
use Rattle.room_wiring.specs.Slots.{slot_at}
use Rattle.actor_duties.specs.State.{ImportPlace, Done}
use Rattle.actor_duties.specs.Words.{is_home, is_fixed, is_optional, is_fixed_kind, is_optional_kind, class_number}
use Rattle.actor_duties.specs.Messages.{StaleId, WrongClass}
use Rattle.actor_duties.specs.Frame.{import_code, import_with, busy_code, is_same_class}
use Rattle.frame_service.specs.frame_imports.Homes.{home_there}

-- no slot has a number that isn't one
not_there : (t : Tables) (s : ℕ) → length t.slots ≤ s → slot_at t s ≡ None
not_there t s l = go (slot_at t s) refl
  where
    go : (o : Option Slot) → slot_at t s ≡ o → slot_at t s ≡ None
    go None e = e
    go (Some x) e = let there : s < length t.slots = slice_get_within t.slots s x e in absurd (omega arith)

not_home : (t : Tables) (s : ℕ) → length t.slots ≤ s → is_home t s ≡ false
unfolding is_fixed is_optional
not_home t s l = ap (λ (o : Option Slot). option_map_or (λ (x : Slot). is_fixed_kind x.kind) o false || option_map_or (λ (x : Slot). is_optional_kind x.kind) o false) (not_there t s l)

-- an import of a number that no slot has is refused as a stale one
pub through_home : (t : Tables) (me : ℕ) (places : ℕ → ImportPlace) (x : Incarnation) (r : ℕ) (z : ℤ) (i : ℕ) (o : Option Incarnation)
    → import_with t me places x r z i (home_there t o) (import_code t places i (home_there t o)) ≡ import_with t me places x r z i o (import_code t places i o)
through_home t me places x r z i None = refl
through_home t me places x r z i (Some h) = elim (cases_lt h.slot.0 (length t.slots)) [
  | inl l ↦ ap (λ b. with_home (cond b (Some h) None)) (lt-ltb h.slot.0 (length t.slots) l)
  | inr l ↦
      ap (λ b. with_home (cond b (Some h) None)) (le-ltb h.slot.0 (length t.slots) l)
      ∙ sym (ap (λ b. import_with t me places x r z i (Some h)
      (cond (not b) (Some StaleId) (cond (not (is_same_class (class_number t i) (class_number t h.slot.0))) (Some WrongClass) (busy_code (places i)))))
      (not_home t h.slot.0 l))
]
  where
    with_home : Option Incarnation → Done (ℕ → ImportPlace)
    with_home home = import_with t me places x r z i home (import_code t places i home)
