use Rattle.std.proofs.Common.{◌≡◌, ◌∙◌, None, subst, sym, arith}
use Rattle.std.proofs.lemmas.Option.{none-some}
use Rattle.wiring_slots.specs.slot_tree.MappingOrders.{EndsAlike}
use Rattle.wiring_slots.specs.slot_tree.Owners.{next_step}
use Rattle.wiring_slots.specs.slot_tree.Runs.{trail_at}
use Rattle.wiring_slots.proofs.slot_tree.Cutting.{group_is}
use Rattle.wiring_slots.proofs.slot_tree.MappingOrders.{nothing_kept}
use Rattle.wiring_slots.proofs.slot_tree.mapping_order.MappingOrder.group_at.Goals as goal
use Rattle.wiring_slots.proofs.slot_tree.mapping_order.MappingOrder.group_at.Goals.{in-Some, in-None}

pub returns : goal.returns
returns c =
    let plans = c.args.self.now in
    let first = c.args.first in
    let run = c.args.run in
    let next : next_step plans (trail_at run.steps first) ≡ c.next_step.result = sym c.next_step.ensures.value in
    let ends : EndsAlike plans first c.match-next_step.end =
    elim c.match-next_step.branch [
      | in-Some w ↦ subst (λ n. EndsAlike plans first n) (sym w.end-is) w.end_of-end.ensures
      | in-None w ↦ subst (λ n. EndsAlike plans first n) (sym w.end-is) (nothing_kept plans first)
    ]
    in
    let none : (c.next_step.result ≡ None → c.match-next_step.end ≡ 0) =
    elim c.match-next_step.branch [
      | in-Some w ↦ λ e. absurd (none-some _ (sym e ∙ w.in-Some.is))
      | in-None w ↦ λ e. w.end-is
    ]
    in
    group_is plans run first c.match-next_step.end c.within.result c.next_step.result next ends none c.requires
    (λ j low high. let kept = c.within.ensures.kept (omega (arith, low, high)) in omega (arith, high, kept))
    (omega (arith, c.within.ensures.low)) c.within.ensures.high
