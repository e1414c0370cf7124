use Rattle.room_ast.specs.Trees.{class_view}
use Rattle.room_ast.specs.model_parts.Classes.{as_protocol}
use Rattle.check_tables.proofs.class_tables.Lists.{viewed_next}
use Rattle.check_scopes.specs.class_scopes.ByKinds.{signals_by}
use Rattle.check_scopes.specs.class_scopes.Signals.{map_signals}
use Rattle.check_scopes.specs.class_scopes.Views.{signal_view}
use Rattle.check_scopes.proofs.class_scopes.Lists.{viewed_push_if}
use Rattle.check_scopes.proofs.class_scopes.protocols.signals_of_classes.Goals as goal

pub loop-class-preserved : goal.loop-class-preserved
loop-class-preserved c =
    viewed_next (signals_by c.args.names.now c.args.kinds.now) as_protocol class_view c.args.classes.now c.loop-class.class-index c.class-item.result _ _ _ c.loop-class-test.true c.class-item.is c.in_ok-signals_if_protocol.ensures c.loop-class.invariant
    (viewed_push_if (map_signals signal_view) _ _ _ c.in_ok-push_if.ensures)
