use Rattle.room_ast.specs.model_parts.Ports.{structure_entry}
use Rattle.check_tables.proofs.class_tables.Lists.{behind_next}
use Rattle.check_tables.proofs.class_tables.ports.port_entries.Goals as goal

pub loop-item-preserved : goal.loop-item-preserved
loop-item-preserved c =
    behind_next _ (structure_entry c.args.protocols.now) c.args.structure.now c.loop-item.item-index c.item-item.result _ _ _ c.loop-item-test.true c.item-item.is c.structure_entry.ensures c.loop-item.invariant c.in_ok-push_if.ensures
