use Rattle.std.proofs.Common.{ℕ, List, reverse, subst, sym, ap, ◌∙◌}
use Rattle.room_kinds.specs.declared.numbers.Incarnation.{Incarnation}
use Rattle.frame_lives.specs.Shown.{shown}
use Rattle.frame_lives.proofs.EndSteps.{Ending, ending_begun, ending_on, ending_past, ending_done}
use Rattle.frame_lives.proofs.slot_lives.SlotLives.ending.Goals as goal

pub loop-next-init : goal.loop-next-init
loop-next-init c =
    let t = c.args.site.now.wiring.now in
    let me = c.args.site.now.me.0 in
    let l = (shown c.args.self.now).lives in
    let o = c.args.slot.0 in
    let e = c.end-end.result in
    subst (λ (n : ℕ). Ending t me l o e c.new-ending.result n) (sym c.from-next.ensures)
    (subst (λ (xs : List Incarnation). Ending t me l o e xs o) (sym c.new-ending.ensures)
    (ending_begun t c.requires.site.order me l o e c.end-end.ensures.run))

pub loop-next-preserved-then-is_reached : goal.loop-next-preserved-then-is_reached
loop-next-preserved-then-is_reached c =
    ending_on c.args.site.now.wiring.now c.requires.site.order c.args.site.now.me.0 (shown c.args.self.now).lives c.args.slot.0 c.end-end.result c.loop-next.next
    c.loop-next.ending c.add_ending.new.ending c.end-end.ensures.run c.loop-next-test.true
    (sym c.is_reached.ensures ∙ c.if-is_reached.true) c.in_ok-add_ending.ensures c.loop-next.invariant

pub loop-next-preserved : goal.loop-next-preserved
loop-next-preserved c =
    ending_past c.args.site.now.wiring.now c.requires.site.order c.args.site.now.me.0 (shown c.args.self.now).lives c.args.slot.0 c.end-end.result c.loop-next.next c.end-next.result
    c.loop-next.ending c.end-end.ensures.run c.loop-next-test.true
    (sym c.is_reached.ensures ∙ c.if-is_reached.false) c.end-next.ensures.run c.loop-next.invariant

pub returns : goal.returns
returns c =
    c.from.ensures ∙ c.reverse.ensures.items ∙ ap (λ (xs : List Incarnation). reverse xs) c.into_vec-ending.ensures
    ∙ ending_done c.args.site.now.wiring.now c.requires.site.order c.args.site.now.me.0 (shown c.args.self.now).lives c.args.slot.0 c.end-end.result c.loop-next.next
    c.loop-next.ending c.end-end.ensures.run c.loop-next-test.false c.loop-next.invariant
