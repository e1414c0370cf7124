-- Slots that stand for the references of a structure.
use Rattle.std.specs.Prelude.{◌≡◌, ℕ, false, List, [], Some, length, slice_get, All}
use Rattle.room_kinds.specs.declared.structure.PortKind.TheVariants.{Spp}
use Rattle.room_wiring.specs.declared.slot.Slot.{Slot}
use Rattle.wiring_plan.specs.declared.structure_plan.plan.ClassPlan.{ClassPlan}
use Rattle.wiring_plan.specs.declared.structure_plan.plan.LayerPlan.{LayerPlan}
use Rattle.wiring_plan.specs.declared.structure_plan.plan.PortPlan.{PortPlan}
use Rattle.wiring_plan.specs.declared.structure_plan.plan.ReferencePlan.{ReferencePlan}
use Rattle.wiring_plan.specs.declared.structure_plan.plan.StructurePlan.{StructurePlan}
use Rattle.room_kinds.specs.Structure.{is_imported}
use Rattle.wiring_places.specs.place_rules.Parts.{class_plan, container_of, container_class, children}

-- A slot stands for a reference of its container: it has the reference's class and kind.
pub record StandsFor (plan : StructurePlan) (slots : List Slot) (x : Slot) : Type 0 where
  pub reference : ReferencePlan
  pub named : slice_get (container_class plan slots (container_of x)).references x.reference ≡ Some reference
  pub class : x.class ≡ reference.class
  pub kind : x.kind ≡ reference.kind

-- A layer connection of a class gives the service of a service provision point, a port of the class of a reference that isn't imported.
pub record GivesService (plan : StructurePlan) (class : ClassPlan) (l : LayerPlan) : Type 0 where
  pub reference : ReferencePlan
  pub provider : slice_get class.references l.provider ≡ Some reference
  pub present : is_imported reference.kind ≡ false
  pub port : PortPlan
  pub service : slice_get (class_plan plan reference.class).ports l.service ≡ Some port
  pub kind : port.kind ≡ Spp

-- These are the slots of a structure: each stands for a reference of its container, and each reference of a container has as many slots as it says. The subsystem has no ports, and each layer connection gives the service of a service provision point.
pub record AreSlotsOf (plan : StructurePlan) (slots : List Slot) : Type 0 where
  pub no_ports : plan.subsystem.ports ≡ []
  pub stands : (s : ℕ) (x : Slot) → slice_get slots s ≡ Some x → StandsFor plan slots x
  pub counted : (c r : ℕ) (reference : ReferencePlan) → slice_get (container_class plan slots c).references r ≡ Some reference → length (children slots c r) ≡ reference.count
  pub services : (c : ℕ) → All (GivesService plan (container_class plan slots c)) (container_class plan slots c).layers
