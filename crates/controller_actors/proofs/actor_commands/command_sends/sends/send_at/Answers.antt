use Rattle.std.proofs.Common.{ℤ, [], ◌∷◌, ◌++◌, w64, refl, sym, ap, ◌∙◌}
use Rattle.std.proofs.lemmas.Int.{to_z-of_z}
use Rattle.room_kinds.specs.declared.note.Note.TheVariants as notes
use Rattle.controller_actors.specs.actor_commands.command_sends.Adding.{content_of}
use Rattle.controller_actors.proofs.actor_commands.command_sends.Sending.{adds_message, adds_note}
use Rattle.controller_actors.proofs.actor_commands.command_sends.sends.send_at.Goals as goal

pub returns-in_ok-push-in-Some : goal.returns-in_ok-push-in-Some
returns-in_ok-push-in-Some g c =
    let s = c.args.speaker.now in
    let output = c.args.output.now in
    adds_message s.wiring.now s.me.0 (g.S.Services.frame_of c.args.services.now) (g.S.Services.links_of c.args.services.now) s.who c.args.port c.args.at (content_of c.args.content)
    c.in-Some.target c.message-m.result output (record { messages = c.push.new.self; notes = output.notes; back = output.back })
    (sym c.peer.ensures.peer ∙ c.in-Some.is) c.message-m.ensures c.in_ok-push-in-Some.ensures.ok refl refl

pub returns-in_ok-push-in-None : goal.returns-in_ok-push-in-None
returns-in_ok-push-in-None g c =
    let s = c.args.speaker.now in
    let output = c.args.output.now in
    adds_note s.wiring.now s.me.0 (g.S.Services.frame_of c.args.services.now) (g.S.Services.links_of c.args.services.now) s.who c.args.port c.args.at c.args.place (content_of c.args.content)
    output (record { messages = output.messages; notes = c.push-in-None.new.self; back = output.back })
    c.requires.place (sym c.peer.ensures.peer ∙ c.in-None.is) refl
    (c.in_ok-push-in-None.ensures.ok ∙ ap (λ (z : ℤ). output.notes ++ notes.Unbound c.args.port z ∷ []) (to_z-of_z w64 c.args.place c.ranges.place)) refl
