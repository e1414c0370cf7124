use Rattle.std.proofs.Common.{arith, ap}
use Rattle.std.proofs.lemmas.Grind.{common_steps}
use Rattle.room_ast.specs.Trees.{actor_view, class_view}
use Rattle.room_ast.specs.declared.model.Class.{Class}
use Rattle.room_ast.specs.model_parts.Classes.{as_actor}
use Rattle.wiring_plan.specs.wiring_classes.Walked.{class_by}
use Rattle.wiring_plan.proofs.structure_plan.Turns.{taken_turn}
use Rattle.wiring_plan.proofs.wiring_classes.classes.all_names.Goals as goal
use Rattle.wiring_plan.proofs.wiring_classes.classes.all_names.Goals.{in-Actor+in-Some+in_ok-class_names+in_ok-push, in_default}

pub loop-class-preserved : goal.loop-class-preserved
loop-class-preserved c =
    elim c.match-class.branch [
      | in-Actor+in-Some+in_ok-class_names+in_ok-push w ↦
          let turn =
          taken_turn (class_by c.args.names.now c.args.signals.now c.args.kinds.now) c.args.classes.now c.loop-class.class-index c.class-item.result c.loop-class-test.true c.class-item.is (actor_view w.in-Actor.actor)
          (ap (λ (k : Class). as_actor (class_view k)) w.in-Actor.is)
          in
          grind (arith, common_steps)
      | in_default w ↦ grind (arith, common_steps)
    ]
