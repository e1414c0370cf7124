-- Tables that name only what they have.
use Rattle.std.specs.Prelude.{◌≡◌, ℕ, ◌+◌, ◌<◌, ◌≤◌, List, Bool, Some, length, slice_get, slice_index}
use Rattle.room_wiring.specs.declared.tables.Tables.{Tables}
use Rattle.room_wiring.specs.declared.tables.PlaceSpan.{PlaceSpan}
use Rattle.room_wiring.specs.declared.slot.Slot.{Slot}
use Rattle.room_wiring.specs.Slots.{slot_at}
use Rattle.room_wiring.specs.Places.{port_count}

-- each slot and each controller has a number; each slot has a class, an owner and its rows in the
-- other tables; each port has its rows in the table of partners
pub record IsConsistent (t : Tables) : Type 0 where
  pub slots_numbered : length t.slots ≤ 65536
  pub controllers_numbered : length t.controllers ≤ 255
  pub classes_known : (s : ℕ) (x : Slot) → slot_at t s ≡ Some x → x.class < length t.classes
  pub owners_known : (s : ℕ) (x : Slot) → slot_at t s ≡ Some x → x.owner.0 < length t.controllers
  pub first_ports_complete : length t.first_ports ≡ length t.slots
  pub ports_complete : (s : ℕ) → s < length t.slots → slice_index t.first_ports s + port_count t s ≤ length t.ports
  pub partners_complete : (i : ℕ) (span : PlaceSpan) → slice_get t.ports i ≡ Some span → span.first + span.count ≤ length t.partners
  pub told_complete : length t.told ≡ length t.slots
  pub told_rows_complete : (s : ℕ) (row : List Bool) → slice_get t.told s ≡ Some row → length row ≡ length t.controllers
