-- The slots of a structure, depth first, in order of declaration and index.
use Rattle.std.specs.Prelude.{ℕ, zero, suc, ◌+◌, Bool, List, [], ◌∷◌, ◌++◌, length, map, decimal, Option, Some, None, slice_get, if◌then◌else◌}
use Rattle.std.specs.List.{enumerate_from, flat_map, range_with_len, slice_index_or}
use Rattle.std.specs.Option.{option_map_or}
use Rattle.room_kinds.specs.declared.numbers.ControllerId.{ControllerId}
use Rattle.room_kinds.specs.declared.numbers.SlotId.{SlotId}
use Rattle.room_kinds.specs.declared.structure.ReferenceKind.{ReferenceKind}
use Rattle.room_kinds.specs.Structure.{is_imported}
use Rattle.room_wiring.specs.declared.slot.Slot.{Slot}
use Rattle.wiring_plan.specs.declared.structure_plan.plan.ClassPlan.{ClassPlan}
use Rattle.wiring_plan.specs.declared.structure_plan.plan.ReferencePlan.{ReferencePlan}
use Rattle.wiring_plan.specs.declared.structure_plan.plan.StructurePlan.{StructurePlan}
use Rattle.wiring_slots.specs.declared.slot_tree.names.MappingPlan.{MappingPlan}
use Rattle.wiring_slots.specs.declared.slot_tree.names.ReferenceLabel.{ReferenceLabel}
use Rattle.wiring_slots.specs.declared.slot_tree.names.SlotNames.{SlotNames}
use Rattle.wiring_slots.specs.declared.slot_tree.owners.Trail.{Trail}
use Rattle.wiring_slots.specs.slot_tree.Owners.{trails_at, owner_at}
use Rattle.wiring_slots.specs.slot_tree.Orders.{in_order}

-- A slot that has no number yet, the mappings that lead to it, and how many containers deep its inside is looked into.
pub record Pending : Type 0 where
  pub slot : Slot
  pub trails : List Trail
  pub depth : ℕ

-- What slots have from their container: what stands before their names in their paths, its number if it is no subsystem, its owner, its trails, and how many containers deep the insides of these slots are looked into.
pub record Above : Type 0 where
  pub prefix : List ℕ
  pub parent : Option SlotId
  pub owner : ControllerId
  pub trails : List Trail
  pub depth : ℕ

-- `:` and the index, where the reference is replicated.
abbrev pub index_text : Bool → ℕ → List ℕ
index_text replicated index = if replicated then 58 ∷ decimal index else []

-- `name`, or `name:index` where the reference is replicated.
abbrev pub segment_text : ℕ → ReferenceLabel → List ℕ
segment_text index r = r.name ++ index_text r.replicated index

-- The path of a slot: what stands before its name, and its name.
abbrev pub path_text : List ℕ → List ReferenceLabel → ℕ → ℕ → List ℕ
path_text prefix labels reference index = prefix ++ option_map_or (segment_text index) (slice_get labels reference) []

-- The owner of a slot to which these trails lead; an imported slot has its container's owner.
abbrev pub owner_of : List MappingPlan → ControllerId → ReferenceKind → List Trail → ControllerId
owner_of mappings owner kind trails = if is_imported kind then owner else owner_at mappings owner trails

-- The slot of a reference, with its number in its class, and of an index, to which these trails lead.
abbrev pub pending_with : List MappingPlan → Above → List ReferenceLabel → ℕ → ReferencePlan → ℕ → List Trail → Pending
pending_with mappings above labels number r index trails = record {
  slot = record {
    path = path_text above.prefix labels number index;
    class = r.class;
    kind = r.kind;
    parent = above.parent;
    owner = owner_of mappings above.owner r.kind trails;
    reference = number;
    index = index;
  };
  trails = trails;
  depth = above.depth;
}

-- The slot of a reference, with its number in its class, and of an index.
unfoldable pub pending_at : List MappingPlan → Above → List ReferenceLabel → ℕ → ReferencePlan → ℕ → Pending
pending_at mappings above labels number r index = pending_with mappings above labels number r index (trails_at mappings number index above.trails)

-- The slots of a reference, in order of index.
abbrev pub slots_of_reference : List MappingPlan → Above → List ReferenceLabel → ℕ × ReferencePlan → List Pending
slots_of_reference mappings above labels r = map (pending_at mappings above labels r.0 r.1) (range_with_len 0 r.1.count)

-- The slots directly inside a container with these references, in order of declaration and index.
unfoldable pub slots_of_references : List MappingPlan → Above → List ReferenceLabel → List ReferencePlan → List Pending
slots_of_references mappings above labels references = flat_map (slots_of_reference mappings above labels) (enumerate_from 0 references)

-- What the slots inside a slot with this number have from it: its path and `/`, its number, its owner and its trails.
abbrev pub above_in : ℕ → ℕ → Pending → Above
above_in depth number p = record { prefix = p.slot.path ++ 47 ∷ []; parent = Some (record { 0 = number }); owner = p.slot.owner; trails = p.trails; depth = depth }

-- The references of a class by number.
abbrev pub references_of_class : StructurePlan → ℕ → List ReferencePlan
references_of_class plan class = option_map_or (λ (c : ClassPlan). c.references) (slice_get plan.classes class) []

-- The labels of the references of a class by number.
abbrev pub labels_of_class : SlotNames → ℕ → List ReferenceLabel
labels_of_class names class = slice_index_or names.classes class []

-- The slots directly inside a slot with this number, looked into so deep; an imported slot has none.
abbrev pub inside : StructurePlan → SlotNames → List MappingPlan → ℕ → ℕ → Pending → List Pending
inside plan names mappings depth number p =
    if is_imported p.slot.kind then [] else
    slots_of_references mappings (above_in depth number p) (labels_of_class names p.slot.class) (references_of_class plan p.slot.class)

-- A slot and all that is inside, the slot with this number, looked into so deep.
abbrev pub subtree : StructurePlan → SlotNames → List MappingPlan → ℕ → ℕ → Pending → List Slot
subtree plan names mappings zero number p = p.slot ∷ []
subtree plan names mappings (suc depth) number p = p.slot ∷ in_order (subtree plan names mappings depth) (number + 1) (inside plan names mappings depth number p)

-- What the slots directly inside the subsystem have from it: all mappings begin there, and controller 0 owns what no mapping leads to. No slot lies deeper than there are actor classes, where none contains itself.
abbrev pub top : StructurePlan → List MappingPlan → Above
top plan mappings = record { prefix = []; parent = None; owner = record { 0 = 0 }; trails = map (λ i. record { mapping = i; steps = 0 }) (range_with_len 0 (length mappings)); depth = length plan.classes }

-- The slots directly inside the subsystem.
abbrev pub top_slots : StructurePlan → SlotNames → List MappingPlan → List Pending
top_slots plan names mappings = slots_of_references mappings (top plan mappings) names.subsystem plan.subsystem.references

-- All slots, in the order of their numbers.
unfoldable pub slots_of : StructurePlan → SlotNames → List MappingPlan → List Slot
slots_of plan names mappings = in_order (subtree plan names mappings (length plan.classes)) 0 (top_slots plan names mappings)
