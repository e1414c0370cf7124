use Rattle.std.proofs.Common.{ℕ, subst, sym, ◌∙◌}
use Rattle.service_messages.specs.slot_runs.Runs.{IsNextMade}
use Rattle.service_messages.proofs.slot_runs.Made.{search_found}
use Rattle.service_messages.proofs.slot_runs.runs.SlotRuns.next_made.Goals as goal

pub returns-else-not-is_fixed : goal.returns-else-not-is_fixed
returns-else-not-is_fixed c =
    let t = c.args.wiring.now in
    let o = c.args.top.0 in
    let s = c.args.slot.0 in
    let n = c.loop-next.next in
    subst (λ (e : ℕ). IsNextMade t o e s n) c.end-end.ensures.end
    (search_found t c.requires.order o c.end-end.result s n c.end-end.ensures.run c.requires.made c.loop-next-test.true (sym c.is_fixed.ensures ∙ c.if-not-is_fixed.false) c.loop-next.invariant)
