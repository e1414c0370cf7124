use Rattle.std.proofs.Common.{[], ◌∷◌, List, ℕ, sym, subst}
use Rattle.std.specs.List.{range_with_len}
use Rattle.actor_duties.specs.Commands.{send_each}
use Rattle.controller_actors.specs.actor_commands.command_sends.Adding.{Adds, content_of}
use Rattle.controller_actors.proofs.actor_commands.command_sends.Broadcasting.{Adds-append, Adds-one, range-more}
use Rattle.controller_actors.proofs.actor_commands.command_sends.broadcasts.send_to_places.Goals as goal

pub loop-place-preserved : goal.loop-place-preserved
loop-place-preserved g c =
    let s = c.args.speaker.now in
    let t = s.wiring.now in
    let f = g.S.Services.frame_of c.args.services.now in
    let l = g.S.Services.links_of c.args.services.now in
    let p = c.args.port in
    let content = content_of c.args.content.now in
    let at = c.loop-place.place in
    let new = c.send_copy.new.output in
    subst (λ (ks : List ℕ). Adds (send_each t s.me.0 f l s.who p content ks) c.args.output.now new) (sym (range-more at))
    (Adds-append t s.me.0 f l s.who p content (range_with_len 0 at) (at ∷ []) c.args.output.now c.loop-place.output new c.loop-place.invariant
    (Adds-one t s.me.0 f l s.who p content at c.loop-place.output new c.in_ok-send_copy.ensures))
