use Rattle.std.proofs.Common.{◌≡◌, ◌++◌, drop, map}
use Rattle.room_ast.specs.Trees.{ActorTree, class_view}
use Rattle.room_ast.specs.model_parts.Classes.{as_actor}
use Rattle.room_ast.specs.model_parts.Ports.{structure_of}
use Rattle.wiring_plan.specs.structure_plan.Plans.{actor_plan}
use Rattle.wiring_plan.specs.structure_plan.Steps.{made}
use Rattle.wiring_plan.specs.structure_plan.Walked.{actor_plans}
use Rattle.wiring_plan.proofs.structure_plan.structure.actor_plans.Given as goal

abbrev pub invariant-loop-class : goal.invariant-loop-class
invariant-loop-class l =
    l.plans.items ++ made as_actor (λ c (a : ActorTree). actor_plan l.actors c (structure_of a)) (map class_view (drop l.class-index l.classes)) l.left ≡ actor_plans l.actors (map class_view l.classes)
