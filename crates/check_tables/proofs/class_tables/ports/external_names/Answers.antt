use Rattle.std.proofs.Common.{[]}
use Rattle.room_ast.specs.model_parts.Ports.{external_name}
use Rattle.check_tables.proofs.class_tables.Lists.{behind_next}
use Rattle.check_tables.proofs.class_tables.ports.external_names.Goals as goal

pub loop-item-preserved : goal.loop-item-preserved
loop-item-preserved c = behind_next [] external_name c.args.items.now c.loop-item.item-index c.item-item.result _ _ _ c.loop-item-test.true c.item-item.is c.external_name.ensures c.loop-item.invariant c.in_ok-add_name.ensures
