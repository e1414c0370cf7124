use Rattle.room_ast.specs.model_parts.References.{as_reference}
use Rattle.check_tables.proofs.class_tables.Lists.{mapped_next}
use Rattle.check_scopes.specs.class_scopes.Scopes.{reference_of}
use Rattle.check_scopes.specs.class_scopes.Views.{reference_view}
use Rattle.check_scopes.proofs.class_scopes.Lists.{viewed_push_if}
use Rattle.check_scopes.proofs.class_scopes.references.references_of.Goals as goal

pub loop-item-preserved : goal.loop-item-preserved
loop-item-preserved c =
    mapped_next reference_of as_reference c.args.items.now c.loop-item.item-index c.item-item.result _ _ _ c.loop-item-test.true c.item-item.is c.in_ok-reference_if.ensures c.loop-item.invariant (viewed_push_if reference_view _ _ _ c.in_ok-push_if.ensures)
