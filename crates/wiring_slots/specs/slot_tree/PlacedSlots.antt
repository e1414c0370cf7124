-- Slots that have been placed: each gets the path with its number.
use Rattle.std.specs.Prelude.{ℕ, List, [], ◌∷◌, Option, option_map}
use Rattle.room_kinds.specs.declared.numbers.SlotId.{SlotId}
use Rattle.room_wiring.specs.Paths.{path_at}
use Rattle.room_wiring.specs.declared.slot.Slot.{Slot}
use Rattle.wiring_slots.specs.declared.slot_tree.placed_slots.BareSlot.{BareSlot}
use Rattle.wiring_slots.specs.declared.slot_tree.placed_slots.Placed.{Placed}

-- A slot with this path.
abbrev pub with_path : List ℕ → BareSlot → Slot
with_path path b = record { path = path; class = b.class; kind = b.kind; parent = b.parent; owner = b.owner; reference = b.reference; index = b.index }

-- Slots, each with the path in its place.
abbrev pub with_paths : List (List ℕ) → List BareSlot → List Slot
with_paths [] bs = []
with_paths (p ∷ ps) [] = []
with_paths (p ∷ ps) (b ∷ bs) = with_path p b ∷ with_paths ps bs

-- All slots that have been placed.
abbrev pub all_placed : Placed → List Slot
all_placed p = with_paths p.paths p.slots.items

-- The number of a slot, if there is one.
abbrev pub number_of : Option SlotId → Option ℕ
number_of slot = option_map (λ (s : SlotId). s.0) slot

-- The path of a slot's container; nothing, where that is the subsystem.
abbrev pub container_path : List (List ℕ) → BareSlot → List ℕ
container_path paths b = path_at paths (number_of b.parent)
