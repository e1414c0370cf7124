use Rattle.std.proofs.Common.{◌∙◌, List, ap, refl, arith}
use Rattle.wiring_slots.specs.declared.slot_tree.owners.Trail.{Trail}
use Rattle.wiring_slots.specs.slot_tree.Leading.{by_reference}
use Rattle.wiring_slots.proofs.slot_tree.Cutting.{run_taken, all_taken}
use Rattle.wiring_slots.proofs.slot_tree.Sorting.{none_by_reference}
use Rattle.wiring_slots.proofs.slot_tree.leading.by_reference.Goals as goal

pub loop-run-init : goal.loop-run-init
loop-run-init c = none_by_reference c.args.mappings.now c.args.count c.in_ok-lists.lists.items c.in_ok-lists.ensures

pub loop-run-preserved : goal.loop-run-preserved
loop-run-preserved c =
    c.in_ok-sort_by_reference.ensures c.args.count _ c.loop-run.invariant
    ∙ ap (λ (ts : List Trail). by_reference c.args.mappings.now c.args.count ts) (run_taken c.runs-run-items.result.now c.loop-run.run-index _ _ (omega arith) refl)

pub returns : goal.returns
returns c =
    c.loop-run.invariant
    ∙ ap (λ (ts : List Trail). by_reference c.args.mappings.now c.args.count ts) (all_taken c.runs-run-items.result.now c.loop-run.run-index (omega arith) ∙ c.runs-run-items.ensures)
