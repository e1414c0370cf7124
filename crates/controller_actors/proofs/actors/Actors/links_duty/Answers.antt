use Rattle.std.proofs.Common.{◌&&◌, List, ◌++◌, ap, ◌∙◌}
use Rattle.room_kinds.specs.declared.message.Msg.{Msg}
use Rattle.room_kinds.specs.declared.numbers.Incarnation.{Incarnation}
use Rattle.actor_duties.specs.Words.{is_own}
use Rattle.actor_duties.specs.Lives.{is_live}
use Rattle.actor_duties.specs.Links.{links_duty}
use Rattle.controller_actors.specs.Served.{links_in}
use Rattle.controller_actors.specs.Bodies.{lives_of}
use Rattle.controller_actors.proofs.Naming.{has_links}
use Rattle.controller_actors.proofs.actors.Actors.links_duty.Goals as goal

pub returns : goal.returns
returns c =
    let p = c.args.plant.now in
    let me = c.args.me.0 in
    let m = c.args.m.now in
    let old = c.args.self.now in
    let live = c.is_live-live.result in
    let done = links_duty p.wiring me (links_in old.services) live c.args.kind m in
    has_links p me m c.args.kind old c.only_sends.result c.requires.well c.duty.new.self c.duty.new.out live c.requires.links
    (c.is_live-live.ensures ∙ ap (λ (x : Incarnation). is_own p.wiring me x.slot.0 && is_live (lives_of old) x) c.whose.ensures)
    c.in_ok-duty.ensures.now (c.in_ok-duty.ensures.sent ∙ ap (λ (ms : List Msg). ms ++ done.sent) c.new-sent.ensures) c.only_sends.ensures
