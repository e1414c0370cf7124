-- Slots that wait without their paths. Each path is its container's, and what the slot adds to it.
use Rattle.std.specs.Prelude.{◌≡◌, ℕ, zero, suc, ◌<◌, List, [], ◌∷◌, ◌++◌, All, length, map, Option, Some, None, if◌then◌else◌}
use Rattle.std.specs.List.{enumerate_from, flat_map, range_with_len}
use Rattle.room_kinds.specs.Structure.{is_imported}
use Rattle.room_kinds.specs.declared.numbers.SlotId.{SlotId}
use Rattle.room_wiring.specs.Paths.{path_at}
use Rattle.room_wiring.specs.declared.slot.Slot.{Slot}
use Rattle.wiring_plan.specs.declared.structure_plan.plan.ReferencePlan.{ReferencePlan}
use Rattle.wiring_plan.specs.declared.structure_plan.plan.StructurePlan.{StructurePlan}
use Rattle.wiring_slots.specs.declared.slot_tree.children.Container.{Container}
use Rattle.wiring_slots.specs.declared.slot_tree.children.Waiting.{Waiting}
use Rattle.wiring_slots.specs.declared.slot_tree.names.MappingPlan.{MappingPlan}
use Rattle.wiring_slots.specs.declared.slot_tree.names.ReferenceLabel.{ReferenceLabel}
use Rattle.wiring_slots.specs.declared.slot_tree.names.SlotNames.{SlotNames}
use Rattle.wiring_slots.specs.declared.slot_tree.owners.Trail.{Trail}
use Rattle.wiring_slots.specs.declared.slot_tree.placed_slots.Placed.{Placed}
use Rattle.wiring_slots.specs.slot_tree.Owners.{trails_at}
use Rattle.wiring_slots.specs.slot_tree.Slots.{Pending, Above, path_text, owner_of, references_of_class, labels_of_class}
use Rattle.wiring_slots.specs.slot_tree.Placing.{Placing}
use Rattle.wiring_slots.specs.slot_tree.PlacedSlots.{with_path, all_placed, number_of, container_path}

-- What stands behind the path of a container of this class in the paths of its slots; nothing, where it is the subsystem.
abbrev pub slash_behind : Option ℕ → List ℕ
slash_behind None = []
slash_behind (Some class) = 47 ∷ []

-- The labels of the references of a container: of this class, or of the subsystem.
abbrev pub labels_in : SlotNames → Option ℕ → List ReferenceLabel
labels_in names None = names.subsystem
labels_in names (Some class) = labels_of_class names class

-- What the path of a slot that waits has behind its container's path.
abbrev pub end_in : SlotNames → Waiting → List ℕ
end_in names w = path_text (slash_behind w.container_class) (labels_in names w.container_class) w.slot.reference w.slot.index

-- The path of a slot that waits, where the slots that have been placed have these.
abbrev pub path_in : SlotNames → List (List ℕ) → Waiting → List ℕ
path_in names paths w = container_path paths w.slot ++ end_in names w

-- A slot that waits, with the path that it gets.
abbrev pub pending_of : SlotNames → List (List ℕ) → Waiting → Pending
pending_of names paths w = record { slot = with_path (path_in names paths w) w.slot; trails = w.trails; depth = w.depth }

-- What slots have from a container, where the slots that have been placed have these paths.
abbrev pub above_of : List (List ℕ) → Container → Above
above_of paths c = record { prefix = path_at paths (number_of c.number) ++ slash_behind c.class; parent = c.number; owner = c.owner; trails = c.trails; depth = c.depth }

-- The slot of a reference, with its number in its class, and of an index, to which these trails lead.
abbrev pub waiting_with : List MappingPlan → Container → ℕ → ReferencePlan → ℕ → List Trail → Waiting
waiting_with mappings c number r index trails = record {
  container_class = c.class;
  slot = record {
    class = r.class;
    kind = r.kind;
    parent = c.number;
    owner = owner_of mappings c.owner r.kind trails;
    reference = number;
    index = index;
  };
  trails = trails;
  depth = c.depth;
}

-- The slot of a reference, with its number in its class, and of an index.
unfoldable pub waiting_at : List MappingPlan → Container → ℕ → ReferencePlan → ℕ → Waiting
waiting_at mappings c number r index = waiting_with mappings c number r index (trails_at mappings number index c.trails)

-- The slots of a reference, in order of index.
abbrev pub waiting_of_reference : List MappingPlan → Container → ℕ × ReferencePlan → List Waiting
waiting_of_reference mappings c r = map (waiting_at mappings c r.0 r.1) (range_with_len 0 r.1.count)

-- The slots directly inside a container with these references, in order of declaration and index.
unfoldable pub waiting_of_references : List MappingPlan → Container → List ReferencePlan → List Waiting
waiting_of_references mappings c references = flat_map (waiting_of_reference mappings c) (enumerate_from 0 references)

-- A slot with this number as a container.
abbrev pub container_of : ℕ → ℕ → Waiting → Container
container_of depth number w = record { class = Some w.slot.class; number = Some (record { 0 = number }); owner = w.slot.owner; trails = w.trails; depth = depth }

-- The slots directly inside a slot that is looked into so deep.
abbrev pub waiting_to : StructurePlan → List MappingPlan → ℕ → ℕ → Waiting → List Waiting
waiting_to plan mappings zero number w = []
waiting_to plan mappings (suc depth) number w =
    if is_imported w.slot.kind then [] else
    waiting_of_references mappings (container_of depth number w) (references_of_class plan w.slot.class)

-- The slots directly inside a slot that waits, which gets this number.
abbrev pub waiting_inside : StructurePlan → List MappingPlan → ℕ → Waiting → List Waiting
waiting_inside plan mappings number w = waiting_to plan mappings w.depth number w

-- The subsystem as a container.
abbrev pub subsystem : StructurePlan → List MappingPlan → Container
subsystem plan mappings = record { class = None; number = None; owner = record { 0 = 0 }; trails = map (λ i. record { mapping = i; steps = 0 }) (range_with_len 0 (length mappings)); depth = length plan.classes }

-- The slots directly inside the subsystem.
abbrev pub waiting_tops : StructurePlan → List MappingPlan → List Waiting
waiting_tops plan mappings = waiting_of_references mappings (subsystem plan mappings) plan.subsystem.references

-- A slot that can be placed behind so many: its container, if that is a slot, is among them.
abbrev pub IsReady : ℕ → Waiting → Type 0
IsReady count w = (s : SlotId) → w.slot.parent ≡ Some s → s.0 < count

-- What the loop keeps as a whole, of the slots that have been placed and those that wait, the next one first.
pub record IsPlacing (plan : StructurePlan) (names : SlotNames) (mappings : List MappingPlan) (all : List Slot) (placed : Placed) (waiting : List Waiting) : Type 0 where
  pub placing : Placing plan names mappings all (all_placed placed) (map (pending_of names placed.paths) waiting)
  pub paths : length placed.slots.items ≡ length placed.paths
  pub ready : All (IsReady (length placed.paths)) waiting
