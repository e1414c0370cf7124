-- Slots and the references that they stand for.
use Rattle.std.specs.Prelude.{◌≡◌, ℕ, false, List, map, Some, length, slice_get}
use Rattle.room_wiring.specs.declared.slot.Slot.{Slot}
use Rattle.wiring_plan.specs.declared.structure_plan.plan.ClassPlan.{ClassPlan}
use Rattle.wiring_plan.specs.declared.structure_plan.plan.ReferencePlan.{ReferencePlan}
use Rattle.wiring_plan.specs.declared.structure_plan.plan.StructurePlan.{StructurePlan}
use Rattle.number_graphs.specs.class_containment.Containment.{contains_itself}
use Rattle.wiring_places.specs.place_rules.Parts.{container_class, children}
use Rattle.wiring_joins.specs.place_faces.SlotsOf.{StandsFor}

-- the classes of a class's references
abbrev pub reference_classes : ClassPlan → List ℕ
reference_classes c = map (λ (r : ReferencePlan). r.class) c.references

-- No class of a structure contains itself through references.
abbrev pub IsFinite : StructurePlan → Type 0
IsFinite plan = contains_itself (map reference_classes plan.classes) ≡ false

-- Each slot stands for a reference of its container, and each reference of a container has as many slots as it says.
pub record StandForReferences (plan : StructurePlan) (slots : List Slot) : Type 0 where
  pub stands : (s : ℕ) (x : Slot) → slice_get slots s ≡ Some x → StandsFor plan slots x
  pub counted : (c r : ℕ) (reference : ReferencePlan) → slice_get (container_class plan slots c).references r ≡ Some reference → length (children slots c r) ≡ reference.count
