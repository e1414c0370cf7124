use Rattle.room_ast.specs.model_parts.Types.{as_field}
use Rattle.check_tables.proofs.class_tables.Lists.{mapped_next}
use Rattle.check_classes.proofs.class_rules.names.field_names.Goals as goal

pub loop-item-preserved : goal.loop-item-preserved
loop-item-preserved c = mapped_next (λ f. f.name) as_field c.args.items.now c.loop-item.item-index c.item-item.result _ _ _ c.loop-item-test.true c.item-item.is c.field_name.ensures c.loop-item.invariant c.in_ok-add_name.ensures
