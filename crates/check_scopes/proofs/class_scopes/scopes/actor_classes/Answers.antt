use Rattle.std.specs.Borrow.{Bor}
use Rattle.room_ast.specs.Trees.{actor_view, class_view}
use Rattle.room_ast.specs.declared.actor.ActorClass.{ActorClass}
use Rattle.room_ast.specs.model_parts.Classes.{as_actor}
use Rattle.check_tables.proofs.class_tables.Lists.{picked_next}
use Rattle.check_scopes.proofs.class_scopes.Lists.{viewed_push_if}
use Rattle.check_scopes.proofs.class_scopes.scopes.actor_classes.Goals as goal

pub loop-class-preserved : goal.loop-class-preserved
loop-class-preserved c =
    picked_next as_actor class_view c.args.classes.now c.loop-class.class-index c.class-item.result _ _ _ c.loop-class-test.true c.class-item.is c.as_actor.ensures c.loop-class.invariant (viewed_push_if (λ (r : Bor ActorClass). actor_view r.now) _ _ _ c.in_ok-push_if.ensures)
