use Rattle.std.proofs.Common.{ℕ, ◌+◌, sym, subst, ◌∙◌}
use Rattle.service_messages.proofs.slot_runs.Sought.{IsSought, sought_begun, sought_found, sought_ended}
use Rattle.service_messages.proofs.slot_runs.runs.SlotRuns.part_numbered.Goals as goal

pub loop-part-init : goal.loop-part-init
loop-part-init c =
    subst (λ (n : ℕ). IsSought c.args.wiring.now c.args.container.0 c.args.reference c.args.index c.end-end.result (n + 1)) (sym c.from-part.ensures)
    (sought_begun c.args.wiring.now c.requires.order c.args.container.0 c.args.reference c.args.index c.end-end.result c.end-end.ensures.run)

pub returns-then-is_slot_for : goal.returns-then-is_slot_for
returns-then-is_slot_for c =
    sym (sought_found c.args.wiring.now c.args.container.0 c.args.reference c.args.index c.end-end.result c.loop-part.part c.slot.result.now
    c.slot.ensures.slot (sym c.is_slot_for.ensures ∙ c.if-is_slot_for.true) c.loop-part.invariant)

pub returns : goal.returns
returns c =
    sym (sought_ended c.args.wiring.now c.requires.order c.args.container.0 c.args.reference c.args.index c.end-end.result c.loop-part.part
    c.end-end.ensures.run c.loop-part-test.false c.loop-part.invariant)
