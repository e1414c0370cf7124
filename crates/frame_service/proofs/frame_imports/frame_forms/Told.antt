-- Nobody is told of a slot that isn't there, and such a slot isn't optional.
use Rattle.std.proofs.Common.{◌≡◌, ℕ, ◌<◌, ◌≤◌, Bool, true, false, List, [], length, get_or, ap, arith}
use Rattle.std.proofs.lemmas.List.{get_or_past}
use Rattle.std.proofs.lemmas.Option.{slice_get_within}
use Rattle.room_wiring.specs.declared.slot.Slot.{Slot}
use Rattle.room_wiring.specs.declared.tables.Tables.{Tables}
use Rattle.room_wiring.specs.Slots.{slot_at}
use Rattle.actor_duties.specs.Words.{is_optional, is_optional_kind}
use Rattle.service_messages.proofs.slot_runs.RunLemmas.{held_true}
use Rattle.room_wiring.specs.Places.{is_told}
use Rattle.room_wiring.specs.Consistent.{IsConsistent}

pub told_past : (t : Tables) (s d : ℕ) → IsConsistent t → length t.slots ≤ s → is_told t s d ≡ false
unfolding is_told
told_past t s d c l =
    let complete = c.told_complete in
    ap (λ (row : List Bool). get_or row d false) (get_or_past t.told s [] (omega arith))

-- an optional slot is there
pub optional_there : (t : Tables) (s : ℕ) → is_optional t s ≡ true → s < length t.slots
unfolding is_optional
optional_there t s h =
    let x = held_true (λ (x : Slot). is_optional_kind x.kind) (slot_at t s) h in slice_get_within t.slots s x.0 x.1
