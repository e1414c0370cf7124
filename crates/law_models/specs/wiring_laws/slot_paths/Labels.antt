-- Labels that tell the references of a structure apart.
use Rattle.std.specs.Prelude.{◌≡◌, ℕ, ◌^◌, ◌<◌, ◌≤◌, false, List, Some, slice_get}
use Rattle.room_wiring.specs.WellNamed.{IsIdent}
use Rattle.wiring_plan.specs.declared.structure_plan.plan.ReferencePlan.{ReferencePlan}
use Rattle.wiring_plan.specs.declared.structure_plan.plan.StructurePlan.{StructurePlan}
use Rattle.wiring_slots.specs.declared.slot_tree.names.ReferenceLabel.{ReferenceLabel}
use Rattle.wiring_slots.specs.declared.slot_tree.names.SlotNames.{SlotNames}
use Rattle.wiring_slots.specs.slot_tree.Slots.{labels_of_class, references_of_class}

-- A reference is called so: its name is an identifier; without a number it has one slot at most; its number has 32 bits.
pub record IsCalled (label : ReferenceLabel) (reference : ReferencePlan) : Type 0 where
  pub name : IsIdent label.name
  pub single : label.replicated ≡ false → reference.count ≤ 1
  pub short : reference.count < 2 ^ 32

-- Each reference of a class is called so, and different references have different names.
pub record AreCalled (labels : List ReferenceLabel) (references : List ReferencePlan) : Type 0 where
  pub called : (r : ℕ) (x : ReferencePlan) → slice_get references r ≡ Some x → (label : ReferenceLabel) × (slice_get labels r ≡ Some label) × IsCalled label x
  pub differ : (r s : ℕ) (a b : ReferenceLabel) → slice_get labels r ≡ Some a → slice_get labels s ≡ Some b → a.name ≡ b.name → r ≡ s

-- It is so in each actor class and in the subsystem class.
pub record CallsApart (plan : StructurePlan) (names : SlotNames) : Type 0 where
  pub classes : (n : ℕ) → AreCalled (labels_of_class names n) (references_of_class plan n)
  pub subsystem : AreCalled names.subsystem plan.subsystem.references
