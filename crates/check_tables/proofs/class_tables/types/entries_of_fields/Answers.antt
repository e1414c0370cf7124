use Rattle.room_ast.specs.model_parts.Types.{type_entry, as_field}
use Rattle.check_tables.proofs.class_tables.Lists.{mapped_next}
use Rattle.check_tables.proofs.class_tables.types.entries_of_fields.Goals as goal

pub loop-item-preserved : goal.loop-item-preserved
loop-item-preserved c =
    mapped_next (λ f. type_entry c.args.classes.now f.type_name) as_field c.args.items.now c.loop-item.item-index c.item-item.result _ _ _ c.loop-item-test.true c.item-item.is c.entry_of_field.ensures c.loop-item.invariant c.in_ok-push_if.ensures
