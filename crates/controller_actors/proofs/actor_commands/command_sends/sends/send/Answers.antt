use Rattle.std.proofs.Common.{ℤ, pos, ◌<ℤ◌, [], ◌∷◌, ◌++◌, w64, refl, ap, subst, ◌∙◌}
use Rattle.std.proofs.lemmas.Int.{to_z-of_z}
use Rattle.room_kinds.specs.declared.note.Note.TheVariants as notes
use Rattle.controller_actors.specs.actor_commands.command_sends.Adding.{content_of}
use Rattle.controller_actors.proofs.actor_commands.command_sends.Sending.{adds_note_below}
use Rattle.controller_actors.proofs.actor_commands.command_sends.sends.send.Goals as goal

pub returns-in_ok-push-in-None : goal.returns-in_ok-push-in-None
returns-in_ok-push-in-None g c =
    let s = c.args.speaker.now in
    let output = c.args.output.now in
    let same = to_z-of_z w64 c.args.place c.ranges.place in
    adds_note_below s.wiring.now s.me.0 (g.S.Services.frame_of c.args.services.now) (g.S.Services.links_of c.args.services.now) s.who c.args.port c.args.place (content_of c.args.content)
    output (record { messages = output.messages; notes = c.push.new.self; back = output.back }) (subst (λ (z : ℤ). z <ℤ pos 0) same c.in-None.ensures) refl
    (c.in_ok-push-in-None.ensures.ok ∙ ap (λ (z : ℤ). output.notes ++ notes.Unbound c.args.port z ∷ []) same) refl
