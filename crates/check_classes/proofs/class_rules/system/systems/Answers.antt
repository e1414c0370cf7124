use Rattle.room_ast.specs.Trees.{class_view}
use Rattle.room_ast.specs.model_parts.Classes.{as_system}
use Rattle.check_tables.proofs.class_tables.Lists.{picked_next}
use Rattle.check_classes.proofs.class_rules.system.systems.Goals as goal

pub loop-class-preserved : goal.loop-class-preserved
loop-class-preserved c = picked_next as_system class_view c.args.classes.now c.loop-class.class-index c.class-item.result _ _ _ c.loop-class-test.true c.class-item.is c.as_system.ensures c.loop-class.invariant c.in_ok-add_system.ensures
