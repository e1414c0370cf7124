use Rattle.std.proofs.Common.{ℕ, List, sym, subst}
use Rattle.room_kinds.specs.declared.numbers.Incarnation.{Incarnation}
use Rattle.service_messages.specs.slot_runs.Runs.{IsNextMade}
use Rattle.frame_lives.specs.Shown.{shown}
use Rattle.frame_lives.proofs.Making.{Making, making_begun, making_on, making_done}
use Rattle.frame_lives.proofs.slot_lives.SlotLives.make.Goals as goal

pub loop-next-init : goal.loop-next-init
loop-next-init c =
    let t = c.args.site.now.wiring.now in
    let me = c.args.site.now.me.0 in
    let o = c.args.slot.0 in
    let e = c.end-end.result in
    let k = shown c.args.self.now in
    let out = c.args.out.now in
    subst (λ (n : ℕ). Making t me o e k k out out c.new-made.result n) (sym c.from-next.ensures)
    (subst (λ (made : List Incarnation). Making t me o e k k out out made o) (sym c.new-made.ensures)
    (making_begun t c.requires.site.order me o e k out c.end-end.ensures.run))

pub loop-next-preserved : goal.loop-next-preserved
loop-next-preserved c =
    let t = c.args.site.now.wiring.now in
    let me = c.args.site.now.me.0 in
    let o = c.args.slot.0 in
    let e = c.end-end.result in
    let old = shown c.args.self.now in
    let n = c.loop-next.next in
    let m = c.next_made-next.result in
    let next = subst (λ (z : ℕ). IsNextMade t o z n m) (sym c.end-end.ensures.end) c.next_made-next.ensures in
    making_on t me o e old (shown c.loop-next.self) (shown c.make_in.new.self) c.args.out.now c.loop-next.out c.make_in.new.out c.loop-next.made c.make_in.new.made n m
    c.loop-next.invariant c.loop-next-test.true next c.in_ok-make_in.ensures.known c.in_ok-make_in.ensures.made c.in_ok-make_in.ensures.sent

pub returns-clause-known : goal.returns-clause-known
returns-clause-known c =
    (making_done c.args.site.now.wiring.now c.requires.site.order c.args.site.now.me.0 c.args.slot.0 c.end-end.result (shown c.args.self.now) (shown c.loop-next.self)
    c.args.out.now c.loop-next.out c.loop-next.made c.loop-next.next c.end-end.ensures.run c.loop-next-test.false c.loop-next.invariant).known

pub returns-clause-made : goal.returns-clause-made
returns-clause-made c =
    (making_done c.args.site.now.wiring.now c.requires.site.order c.args.site.now.me.0 c.args.slot.0 c.end-end.result (shown c.args.self.now) (shown c.loop-next.self)
    c.args.out.now c.loop-next.out c.loop-next.made c.loop-next.next c.end-end.ensures.run c.loop-next-test.false c.loop-next.invariant).made_is
