use Rattle.std.proofs.Common.{◌∷◌, ◌++◌, List, refl, ap, ◌∙◌}
use Rattle.std.specs.Option.{option_copied}
use Rattle.room_kinds.specs.declared.note.Note.{Note}
use Rattle.room_kinds.specs.declared.note.Note.TheVariants as notes
use Rattle.controller_actors.specs.declared.actor_slots.actor_slot.ActorSlot.{ActorSlot}
use Rattle.controller_actors.proofs.actor_slots.Working.{comes_up}
use Rattle.controller_actors.proofs.actor_slots.actor_slot.ActorSlot.come_up_by.Goals as goal

pub returns-clause-up : goal.returns-clause-up
returns-clause-up g c =
    let s = c.args.speaker.now in
    let t = s.wiring.now in
    let f = g.S.Services.frame_of c.args.services.now in
    let l = g.S.Services.links_of c.args.services.now in
    let f2 = g.S.Services.frame_of c.work.new.services in
    let l2 = g.S.Services.links_of c.work.new.services in
    let r = c.in_ok-beginning.beginning in
    let mid : ActorSlot = record { occupant = r.occupant; deferred = c.new.result } in
    let first = c.args.output.now in
    let told = c.tell_up.new.notes in
    let last = c.work.new.output in
    comes_up t s.me.0 f l f2 l2 s.who (option_copied c.args.tables) c.args.self.now mid c.work.new.self r first last c.in_ok-beginning.ensures refl c.new.ensures told
    c.in_ok-work.ensures.works
    (c.in_ok-tell_up.ensures ∙ ap (λ (ns : List Note). first.notes ++ notes.Up s.who r.state ∷ ns) c.as_slice.ensures)
