use Rattle.room_ast.specs.model_parts.Attributes.{as_attribute}
use Rattle.check_tables.proofs.class_tables.Lists.{mapped_next}
use Rattle.wiring_plan.specs.wiring_classes.ByKinds.{attribute_by}
use Rattle.wiring_plan.proofs.wiring_classes.attributes.attributes_of.Goals as goal

pub loop-item-preserved : goal.loop-item-preserved
loop-item-preserved c =
    mapped_next (attribute_by c.args.names.now c.args.kinds.now) as_attribute c.args.items.now c.loop-item.item-index c.item-item.result _ _ _ c.loop-item-test.true c.item-item.is c.in_ok-names_if_attribute.ensures c.loop-item.invariant c.in_ok-push_if.ensures
