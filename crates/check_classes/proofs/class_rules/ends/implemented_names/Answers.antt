use Rattle.std.proofs.Common.{[]}
use Rattle.check_classes.specs.class_rules.Ends.{implemented_name}
use Rattle.check_tables.proofs.class_tables.Lists.{behind_next}
use Rattle.check_classes.proofs.class_rules.ends.implemented_names.Goals as goal

pub loop-item-preserved : goal.loop-item-preserved
loop-item-preserved c = behind_next [] implemented_name c.args.items.now c.loop-item.item-index c.item-item.result _ _ _ c.loop-item-test.true c.item-item.is c.implemented_name.ensures c.loop-item.invariant c.in_ok-add_name.ensures
