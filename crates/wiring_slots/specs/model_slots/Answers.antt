-- The slots of a model, and whether there are too many.
use Rattle.std.specs.Prelude.{◌≡◌, ◌<◌, ◌≤◌, true, false, List, length, Result, Ok, Err}
use Rattle.room_ast.specs.Trees.{ModelTree}
use Rattle.room_wiring.specs.declared.slot.Slot.{Slot}
use Rattle.wiring_plan.specs.structure_plan.Plans.{plan_of}
use Rattle.wiring_plan.specs.wiring_classes.Classes.{classes_of}
use Rattle.wiring_slots.specs.slot_names.Names.{wired_names}
use Rattle.wiring_slots.specs.slot_tree.Slots.{slots_of}
use Rattle.wiring_slots.specs.slot_tree.Places.{has_too_many_places}
use Rattle.wiring_slots.specs.declared.model_slots.slots.WiredSlots.{WiredSlots}
use Rattle.wiring_slots.specs.declared.model_slots.fault.SlotFault.{SlotFault}
use Rattle.wiring_slots.specs.declared.model_slots.fault.SlotFault.TheVariants as faults

-- The slots of the subsystem class that is wired, by number.
unfoldable pub slots_in : ModelTree → List Slot
slots_in m = slots_of (plan_of m) (wired_names m).slots (wired_names m).mappings

-- The structure, the names of the controllers and of the classes, and the slots of a model.
abbrev pub wired : ModelTree → WiredSlots
wired m = record { plan = plan_of m; controllers = (wired_names m).controllers; classes = classes_of m; slots = slots_in m }

-- What is answered: too many slots exactly where there are more than 4,096; else too many places exactly where they have more than 65,536 of those that are counted; else all that was asked for.
abbrev pub AnswersSlots : ModelTree → Result WiredSlots SlotFault → Type 0
AnswersSlots m (Ok w) = (w ≡ wired m) × (length (slots_in m) ≤ 4096) × (has_too_many_places (plan_of m) (slots_in m) ≡ false)
AnswersSlots m (Err faults.TooManySlots) = 4096 < length (slots_in m)
AnswersSlots m (Err faults.TooManyPlaces) = (length (slots_in m) ≤ 4096) × (has_too_many_places (plan_of m) (slots_in m) ≡ true)
AnswersSlots m (Err faults.Memory) = Unit {0}
