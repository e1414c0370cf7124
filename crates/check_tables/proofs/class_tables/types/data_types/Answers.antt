use Rattle.room_ast.specs.Trees.{class_view}
use Rattle.room_ast.specs.model_parts.Types.{field_types}
use Rattle.room_ast.specs.model_parts.Classes.{as_data}
use Rattle.check_tables.proofs.class_tables.Lists.{viewed_next}
use Rattle.check_tables.proofs.class_tables.types.data_types.Goals as goal

pub loop-class-preserved : goal.loop-class-preserved
loop-class-preserved c =
    viewed_next (field_types c.args.classes.now) as_data class_view c.args.declared.now c.loop-class.class-index c.class-item.result _ _ _ c.loop-class-test.true c.class-item.is c.in_ok-types_in_class.ensures c.loop-class.invariant c.in_ok-push_if.ensures
