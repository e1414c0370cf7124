use Rattle.std.proofs.Common.{refl}
use Rattle.std.specs.Option.{option_copied}
use Rattle.controller_actors.specs.declared.actor_slots.actor_slot.ActorSlot.{ActorSlot}
use Rattle.controller_actors.proofs.actor_slots.Working.{starts}
use Rattle.controller_actors.proofs.actor_slots.actor_slot.ActorSlot.begin.Goals as goal

pub returns-clause-begins : goal.returns-clause-begins
returns-clause-begins g c =
    let s = c.args.speaker.now in
    let t = s.wiring.now in
    let f = g.S.Services.frame_of c.args.services.now in
    let l = g.S.Services.links_of c.args.services.now in
    let f2 = g.S.Services.frame_of c.work.new.services in
    let l2 = g.S.Services.links_of c.work.new.services in
    let r = c.in_ok-beginning.beginning in
    let mid : ActorSlot = record { occupant = r.occupant; deferred = c.args.self.now.deferred } in
    starts t s.me.0 f l f2 l2 s.who (option_copied c.args.tables) c.args.self.now mid c.work.new.self r c.args.output.now c.work.new.output c.in_ok-beginning.ensures refl refl
    c.in_ok-work.ensures.works c.requires.kept
