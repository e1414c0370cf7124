use Rattle.std.proofs.Common.{ℕ, subst, sym, ◌∙◌}
use Rattle.service_messages.specs.slot_runs.Runs.{IsNextMade}
use Rattle.service_messages.proofs.slot_runs.OwnParts.{NonePart, part_begun, part_on, part_none}
use Rattle.service_messages.proofs.slot_runs.runs.SlotRuns.has_part.Goals as goal

pub loop-next-init : goal.loop-next-init
loop-next-init c =
    let t = c.args.wiring.now in
    let d = c.args.controller.0 in
    let o = c.args.top.0 in
    subst (λ (n : ℕ). NonePart t d o c.end-end.result n) (sym c.from-next.ensures)
    (part_begun t c.requires.order d o c.end-end.result c.end-end.ensures.run)

pub loop-next-preserved : goal.loop-next-preserved
loop-next-preserved c =
    let t = c.args.wiring.now in
    let o = c.args.top.0 in
    let n = c.loop-next.next in
    let m = c.next_made-next.result in
    let next = subst (λ (z : ℕ). IsNextMade t o z n m) (sym c.end-end.ensures.end) c.next_made-next.ensures in
    part_on t c.args.controller.0 o c.end-end.result n m next (sym c.is_own.ensures ∙ c.if-is_own.false) c.loop-next.invariant

pub returns : goal.returns
returns c =
    part_none c.args.wiring.now c.requires.order c.args.controller.0 c.args.top.0 c.end-end.result c.loop-next.next
    c.end-end.ensures.run c.loop-next-test.false c.loop-next.invariant
