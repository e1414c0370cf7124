use Rattle.std.proofs.Common.{[]}
use Rattle.check_tables.proofs.class_tables.Lists.{behind_next}
use Rattle.check_scopes.specs.class_scopes.Fields.{field_view, kept_field}
use Rattle.check_scopes.proofs.class_scopes.Lists.{viewed_push_if}
use Rattle.check_scopes.proofs.class_scopes.fields.kept_fields.Goals as goal

pub loop-item-preserved : goal.loop-item-preserved
loop-item-preserved c =
    behind_next [] (kept_field c.args.names.now c.args.kinds.now) c.args.items.now c.loop-item.item-index c.item-item.result _ _ _ c.loop-item-test.true c.item-item.is c.kept_field.ensures c.loop-item.invariant (viewed_push_if field_view _ _ _ c.in_ok-push_if.ensures)
