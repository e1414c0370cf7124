use Rattle.controller_actors.proofs.actor_slots.Working.{comes_up_without_chart}
use Rattle.controller_actors.proofs.actor_slots.actor_slot.ActorSlot.come_up.Goals as goal

pub returns-in_ok-come_up_without_chart-in-None-clause-up : goal.returns-in_ok-come_up_without_chart-in-None-clause-up
returns-in_ok-come_up_without_chart-in-None-clause-up g c =
    let s = c.args.speaker.now in
    let f = g.S.Services.frame_of c.args.services.now in
    let l = g.S.Services.links_of c.args.services.now in
    rw c.in-None.is
    (comes_up_without_chart s.wiring.now s.me.0 f l s.who c.args.self.now c.come_up_without_chart.new.self c.args.output.now c.come_up_without_chart.new.notes
    c.in_ok-come_up_without_chart-in-None.ensures.slot c.in_ok-come_up_without_chart-in-None.ensures.told)
