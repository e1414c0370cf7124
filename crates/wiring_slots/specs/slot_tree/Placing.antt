-- Placing the slots that wait, one after another, within a limit.
use Rattle.std.specs.Prelude.{◌≡◌, ℕ, zero, suc, ◌+◌, ◌<◌, ◌≤◌, nat_le, Bool, List, [], ◌++◌, length, Option, Some, None, if◌then◌else◌}
use Rattle.std.specs.Global.{Vec}
use Rattle.std.specs.List.{All}
use Rattle.room_wiring.specs.declared.slot.Slot.{Slot}
use Rattle.wiring_plan.specs.declared.structure_plan.plan.ClassPlan.{ClassPlan}
use Rattle.wiring_plan.specs.declared.structure_plan.plan.StructurePlan.{StructurePlan}
use Rattle.wiring_slots.specs.declared.slot_tree.names.MappingPlan.{MappingPlan}
use Rattle.wiring_slots.specs.declared.slot_tree.names.SlotNames.{SlotNames}
use Rattle.wiring_slots.specs.slot_tree.Slots.{Pending, inside, subtree, slots_of}
use Rattle.wiring_slots.specs.slot_tree.Orders.{in_order}

-- The most slots.
abbrev pub most_slots : ℕ
most_slots = 4096

-- A list, if it has at most so many items.
abbrev pub at_most : {X : Type 0} → ℕ → List X → Option (List X)
at_most n xs = if nat_le (length xs) n then Some xs else None

-- Whether a structure has at most that many slots, whatever they are called and whoever owns them.
abbrev pub TellsFew : StructurePlan → Bool → Type 0
TellsFew plan b = (names : SlotNames) (mappings : List MappingPlan) → b ≡ nat_le (length (slots_of plan names mappings)) most_slots

-- The references of each class have numbers of 16 bits, as they have in a model within the limits.
pub record IsNumbered (plan : StructurePlan) : Type 0 where
  pub classes : All (λ (c : ClassPlan). length c.references ≤ 65536) plan.classes
  pub subsystem : length plan.subsystem.references ≤ 65536

-- These are the items, or they don't fit in a room.
abbrev pub Fits : {X : Type 0} → ℕ → List X → Option (Vec X) → Type 0
Fits room xs (Some v) = (v.items ≡ xs) × (length xs ≤ room)
Fits room xs None = room < length xs

-- The slots directly inside a slot that is looked into so deep.
abbrev pub inside_to : StructurePlan → SlotNames → List MappingPlan → ℕ → ℕ → Pending → List Pending
inside_to plan names mappings zero number p = []
inside_to plan names mappings (suc depth) number p = inside plan names mappings depth number p

-- The slots directly inside a slot that waits.
abbrev pub inside_of : StructurePlan → SlotNames → List MappingPlan → ℕ → Pending → List Pending
inside_of plan names mappings number p = inside_to plan names mappings p.depth number p

-- The slots that wait and all that is inside them, from this number on.
unfoldable pub all_from : StructurePlan → SlotNames → List MappingPlan → ℕ → List Pending → List Slot
all_from plan names mappings first ps = in_order (λ n (p : Pending). subtree plan names mappings p.depth n p) first ps

-- What the loop keeps: the slots so far and those that wait, the next one first, are all; there are few.
pub record Placing (plan : StructurePlan) (names : SlotNames) (mappings : List MappingPlan) (all : List Slot) (slots : List Slot) (waiting : List Pending) : Type 0 where
  pub so_far : slots ++ all_from plan names mappings (length slots) waiting ≡ all
  pub few : length slots + length waiting ≤ 4096
