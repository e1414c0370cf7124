use Rattle.room_ast.specs.model_parts.References.{as_reference, reference_entry}
use Rattle.check_tables.proofs.class_tables.Lists.{mapped_next}
use Rattle.check_tables.proofs.class_tables.references.reference_entries.Goals as goal

pub loop-item-preserved : goal.loop-item-preserved
loop-item-preserved c =
    mapped_next (reference_entry c.args.actors.now) as_reference c.args.items.now c.loop-item.item-index c.item-item.result _ _ _ c.loop-item-test.true c.item-item.is c.entry_in_structure.ensures c.loop-item.invariant c.in_ok-push_if.ensures
