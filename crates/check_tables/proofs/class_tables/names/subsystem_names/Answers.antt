use Rattle.room_ast.specs.Trees.{class_view}
use Rattle.room_ast.specs.model_parts.Classes.{as_subsystem}
use Rattle.check_tables.proofs.class_tables.Lists.{viewed_next}
use Rattle.check_tables.proofs.class_tables.names.subsystem_names.Goals as goal

pub loop-class-preserved : goal.loop-class-preserved
loop-class-preserved c =
    viewed_next (λ k. k.name) as_subsystem class_view c.args.classes.now c.loop-class.class-index c.class-item.result _ _ _ c.loop-class-test.true c.class-item.is c.subsystem_name.ensures c.loop-class.invariant c.in_ok-add_name.ensures
