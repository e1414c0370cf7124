use Rattle.std.proofs.Common.{◌∙◌, List, ap, refl, arith}
use Rattle.wiring_slots.specs.declared.slot_tree.owners.Trail.{Trail}
use Rattle.wiring_slots.specs.slot_tree.Owners.{owner_at}
use Rattle.wiring_slots.proofs.slot_tree.Cutting.{owner_of_run, all_taken}
use Rattle.wiring_slots.proofs.slot_tree.owners.owner_at.Goals as goal

pub loop-run-preserved : goal.loop-run-preserved
loop-run-preserved c =
    c.owner_after-owner.ensures ∙ owner_of_run c.args.mappings.now c.loop-run.owner c.runs-run-items.result.now c.loop-run.run-index _ _ c.args.container_owner (omega arith) refl c.loop-run.invariant

pub returns : goal.returns
returns c =
    c.loop-run.invariant
    ∙ ap (λ (ts : List Trail). owner_at c.args.mappings.now c.args.container_owner ts) (all_taken c.runs-run-items.result.now c.loop-run.run-index (omega arith) ∙ c.runs-run-items.ensures)
