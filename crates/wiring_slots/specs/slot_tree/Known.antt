-- Structures and slots that name only what there is.
use Rattle.std.specs.Prelude.{ℕ, ◌<◌, List, All}
use Rattle.room_wiring.specs.declared.slot.Slot.{Slot}
use Rattle.wiring_plan.specs.declared.structure_plan.plan.ClassPlan.{ClassPlan}
use Rattle.wiring_plan.specs.declared.structure_plan.plan.ReferencePlan.{ReferencePlan}
use Rattle.wiring_plan.specs.declared.structure_plan.plan.StructurePlan.{StructurePlan}
use Rattle.wiring_slots.specs.declared.slot_tree.names.MappingPlan.{MappingPlan}

-- Each reference of a class has a class with a number below n.
abbrev pub NamesClasses : ℕ → ClassPlan → Type 0
NamesClasses n c = All (λ (r : ReferencePlan). r.class < n) c.references

-- A structure whose references have classes with numbers below n, and mappings to controllers with numbers below k.
pub record NamesKnown (n k : ℕ) (plan : StructurePlan) (mappings : List MappingPlan) : Type 0 where
  pub classes : All (NamesClasses n) plan.classes
  pub subsystem : NamesClasses n plan.subsystem
  pub some_controller : 0 < k
  pub mapped : All (λ (m : MappingPlan). m.controller.0 < k) mappings

-- A slot of a class with a number below n, owned by a controller with a number below k.
pub record IsKnownSlot (n k : ℕ) (s : Slot) : Type 0 where
  pub class : s.class < n
  pub owner : s.owner.0 < k
