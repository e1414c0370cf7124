-- Structures whose slots and pairs are as they should be.
use Rattle.std.specs.Prelude.{◌≡◌, [], All}
use Rattle.wiring_plan.specs.declared.structure_plan.plan.ClassPlan.{ClassPlan}
use Rattle.wiring_plan.specs.declared.structure_plan.plan.StructurePlan.{StructurePlan}
use Rattle.wiring_joins.specs.place_faces.SlotsOf.{GivesService}
use Rattle.wiring_joins.specs.slot_references.Referred.{IsFinite}

-- each layer connection of a class gives the service of a service provision point
abbrev pub GivesServices : StructurePlan → ClassPlan → Type 0
GivesServices plan class = All (GivesService plan class) class.layers

-- No class contains itself through references, the subsystem has no ports, and each layer connection gives the service of a service provision point.
pub record IsSound (plan : StructurePlan) : Type 0 where
  pub finite : IsFinite plan
  pub no_ports : plan.subsystem.ports ≡ []
  pub classes : All (GivesServices plan) plan.classes
  pub subsystem : GivesServices plan plan.subsystem
