-- Slots that name only what there is.
use Rattle.std.specs.Prelude.{◌<◌, ◌≤◌, length, All}
use Rattle.wiring_slots.specs.slot_tree.Known.{IsKnownSlot}
use Rattle.wiring_slots.specs.declared.model_slots.slots.WiredSlots.{WiredSlots}

-- Each slot has a class and an owner that there are, and there is a controller; there are no more than 255.
pub record NamesWhatIs (w : WiredSlots) : Type 0 where
  pub slots : All (IsKnownSlot (length w.classes) (length w.controllers)) w.slots
  pub some_controller : 0 < length w.controllers
  pub few_controllers : length w.controllers ≤ 255
