use Rattle.check_classes.specs.class_rules.Names.{declared_name}
use Rattle.check_tables.proofs.class_tables.Lists.{behind_next}
use Rattle.check_classes.proofs.class_rules.names.part_names.Goals as goal

pub loop-item-preserved : goal.loop-item-preserved
loop-item-preserved c = behind_next _ declared_name c.args.structure.now c.loop-item.item-index c.item-item.result _ _ _ c.loop-item-test.true c.item-item.is c.declared_name.ensures c.loop-item.invariant c.in_ok-add_name.ensures
