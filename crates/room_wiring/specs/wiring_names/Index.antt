-- The numbered names of a wiring.
use Rattle.std.specs.Prelude.{◌≡◌, ℕ, List, Option, Some, slice_get, map, option_map, option_and_then}
use Rattle.room_wiring.specs.declared.tables.Tables.{Tables}
use Rattle.room_wiring.specs.Slots.{class_at, class_of}
use Rattle.room_wiring.specs.declared.wiring_names.path_index.PathIndex.{PathIndex}
use Rattle.room_wiring.specs.declared.wiring_names.class_names.ClassNumbers.{ClassNumbers}
use Rattle.room_wiring.specs.declared.wiring_names.slot_classes.SlotClasses.{SlotClasses}
use Rattle.room_wiring.specs.wiring_names.Hashes.{path_hashes, FindsFirst}
use Rattle.room_wiring.specs.wiring_names.Tables.{numbers_of_class}

-- the names of the class of a number
abbrev pub class_numbers : Tables → ℕ → Option ClassNumbers
class_numbers t c = option_map numbers_of_class (class_at t c)

-- these are the names of the classes of these numbers, in their order
abbrev pub AreNumbersOf : Tables → List ℕ → List ClassNumbers → Type 0
AreNumbersOf t numbers names = map (λ (n : ClassNumbers). Some n) names ≡ map (class_numbers t) numbers

-- what stood in a list stands there still, at its place
abbrev pub GoesOn : List ClassNumbers → List ClassNumbers → Type 0
GoesOn old new = (i : ℕ) (n : ClassNumbers) → slice_get old i ≡ Some n → slice_get new i ≡ Some n

-- the names that a slot finds
abbrev pub names_at : SlotClasses → ℕ → Option ClassNumbers
names_at found s = option_and_then (slice_get found.classes) (slice_get found.places s)

-- each slot finds the names of its class, and no other number finds any
abbrev pub FindsForSlots : Tables → SlotClasses → Type 0
FindsForSlots t found = (s : ℕ) → names_at found s ≡ option_map numbers_of_class (class_of t s)

-- the first places of the hashes of a wiring's paths, and the names of the classes that its slots have
pub record IsIndexOf (t : Tables) (slots : PathIndex) (classes : SlotClasses) : Type 0 where
  pub paths : FindsFirst slots.first (path_hashes t)
  pub names : FindsForSlots t classes
