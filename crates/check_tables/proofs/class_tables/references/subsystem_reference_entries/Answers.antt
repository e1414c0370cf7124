use Rattle.room_ast.specs.Trees.{subsystem_item_view}
use Rattle.room_ast.specs.model_parts.References.{as_subsystem_reference, reference_entry}
use Rattle.check_tables.proofs.class_tables.Lists.{viewed_next}
use Rattle.check_tables.proofs.class_tables.references.subsystem_reference_entries.Goals as goal

pub loop-item-preserved : goal.loop-item-preserved
loop-item-preserved c =
    viewed_next (reference_entry c.args.actors.now) as_subsystem_reference subsystem_item_view c.args.items.now c.loop-item.item-index c.item-item.result _ _ _ c.loop-item-test.true c.item-item.is c.entry_in_subsystem.ensures c.loop-item.invariant c.in_ok-push_if.ensures
