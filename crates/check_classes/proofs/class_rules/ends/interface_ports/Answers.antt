use Rattle.std.proofs.Common.{[]}
use Rattle.check_classes.specs.class_rules.Ends.{interface_port}
use Rattle.check_tables.proofs.class_tables.Lists.{behind_next}
use Rattle.check_classes.proofs.class_rules.ends.interface_ports.Goals as goal

pub loop-item-preserved : goal.loop-item-preserved
loop-item-preserved c = behind_next [] interface_port c.args.items.now c.loop-item.item-index c.item-item.result _ _ _ c.loop-item-test.true c.item-item.is c.interface_port.ensures c.loop-item.invariant c.in_ok-add_name.ensures
