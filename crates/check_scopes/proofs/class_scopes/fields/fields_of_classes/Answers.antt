use Rattle.std.proofs.Common.{map}
use Rattle.room_ast.specs.Trees.{class_view}
use Rattle.room_ast.specs.model_parts.Classes.{as_data}
use Rattle.check_tables.proofs.class_tables.Lists.{viewed_next}
use Rattle.check_scopes.specs.class_scopes.Fields.{field_view, fields_kept}
use Rattle.check_scopes.proofs.class_scopes.Lists.{viewed_push_if}
use Rattle.check_scopes.proofs.class_scopes.fields.fields_of_classes.Goals as goal

pub loop-class-preserved : goal.loop-class-preserved
loop-class-preserved c =
    viewed_next (fields_kept c.args.names.now c.args.kinds.now) as_data class_view c.args.classes.now c.loop-class.class-index c.class-item.result _ _ _ c.loop-class-test.true c.class-item.is c.in_ok-fields_if_data.ensures c.loop-class.invariant (viewed_push_if (map field_view) _ _ _ c.in_ok-push_if.ensures)
