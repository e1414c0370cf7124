use Rattle.std.proofs.Common.{[], Some, refl, sym, subst}
use Rattle.std.specs.Option.{option_copied}
use Rattle.controller_mail.specs.declared.mail_queues.TurnResult.{TurnResult}
use Rattle.controller_actors.specs.declared.actor_slots.actor_slot.ActorSlot.{ActorSlot}
use Rattle.controller_actors.specs.declared.actor_commands.output.Output.{Output}
use Rattle.controller_actors.specs.actor_commands.Doings.{HasApplied}
use Rattle.controller_actors.specs.actor_slots.Occupants.{Reacts}
use Rattle.controller_actors.specs.actor_slots.Slots.{SlotTurns}
use Rattle.controller_actors.proofs.actor_slots.Working.{turns}
use Rattle.controller_actors.proofs.actor_slots.actor_slot.ActorSlot.handle.Goals as goal

pub returns-clause-turns : goal.returns-clause-turns
returns-clause-turns g c =
    let s = c.args.speaker.now in
    let t = s.wiring.now in
    let f = g.S.Services.frame_of c.args.services.now in
    let l = g.S.Services.links_of c.args.services.now in
    let f2 = g.S.Services.frame_of c.apply_all.new.services in
    let l2 = g.S.Services.links_of c.apply_all.new.services in
    let o = option_copied c.args.tables in
    let r = c.in-Ok-Some.reaction in
    let out = c.apply_all.new.output in
    let mid : ActorSlot = record { occupant = c.react.new.self; deferred = c.args.self.now.deferred } in
    let new : ActorSlot = record { occupant = c.react.new.self; deferred = c.apply_all.new.deferred } in
    let done : TurnResult = record { sent = out.messages; back = out.back; did = c.did_of-did.result; notes = out.notes } in
    let applied : HasApplied t s.me.0 f l f2 l2 s.who (Some c.args.m) r.outcome.effects.commands c.args.self.now.deferred (record { messages = []; notes = r.outcome.effects.notes; back = [] }) c.apply_all.new.deferred out =
    subst (λ (first : Output). HasApplied t s.me.0 f l f2 l2 s.who (Some c.args.m) r.outcome.effects.commands c.args.self.now.deferred first c.apply_all.new.deferred out) c.new-output.ensures c.in_ok-apply_all.ensures.applied in
    let h : Reacts c.args.m o c.args.self.now.occupant c.react.new.self r = rw c.in-Ok-Some.field-0-is at c.in-Ok-Some.ensures in
    subst (λ (d : TurnResult). SlotTurns t s.me.0 f l f2 l2 s.who c.args.m o c.args.self.now new d) (sym c.into_turn_result.ensures)
    (turns t s.me.0 f l f2 l2 s.who c.args.m o c.args.self.now mid new r done h refl
    (record { occupant = refl; applied = applied })
    c.did_of-did.ensures c.requires.fits c.requires.prio)
