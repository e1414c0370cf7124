use Rattle.std.proofs.Common.{◌≡◌, drop, map}
use Rattle.room_ast.specs.Trees.{SubsystemTree, class_view}
use Rattle.room_ast.specs.model_parts.Classes.{as_subsystem}
use Rattle.wiring_plan.specs.structure_plan.Plans.{subsystem_plan}
use Rattle.wiring_plan.specs.structure_plan.Steps.{found}
use Rattle.wiring_plan.specs.structure_plan.Walked.{named_plan}
use Rattle.wiring_plan.proofs.structure_plan.structure.named_plan.Given as goal

abbrev pub invariant-loop-class : goal.invariant-loop-class
invariant-loop-class l =
    found as_subsystem l.name (λ c (s : SubsystemTree). subsystem_plan l.actors c s.items) (map class_view (drop l.class-index l.classes)) l.left ≡ named_plan l.actors l.subsystems (map class_view l.classes) l.name
