use Rattle.frame_service.proofs.frame_endings.Back.{giving_on, giving_done}
use Rattle.frame_service.proofs.frame_endings.messages.give_all_back.Goals as goal

pub loop-part-preserved : goal.loop-part-preserved
loop-part-preserved g c =
    giving_on c.args.site.now.wiring.now c.args.site.now.me.0 (g.I.Lent.places c.args.lent.now) c.args.actor c.end-end.result c.args.out.now c.loop-part.out c.give_back_at.new.out
    c.loop-part.part c.end-part.result c.end-end.ensures.run c.end-part.ensures.run c.loop-part-test.true c.in_ok-give_back_at.ensures c.loop-part.invariant

pub returns : goal.returns
returns g c =
    giving_done c.args.site.now.wiring.now c.requires.site.order c.args.site.now.me.0 (g.I.Lent.places c.args.lent.now) c.args.actor c.end-end.result c.args.out.now c.loop-part.out
    c.loop-part.part c.end-end.ensures.run c.loop-part-test.false c.loop-part.invariant
