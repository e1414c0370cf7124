use Rattle.std.proofs.Common.{◌<◌, ◌≤◌, [], ◌∷◌, List, ℕ, map, filter, take, get_or, length, nat_le, refl, sym, subst, arith}
use Rattle.std.proofs.lemmas.List.{length-map}
use Rattle.actor_duties.specs.State.{Link}
use Rattle.actor_duties.specs.Commands.{send_each}
use Rattle.controller_actors.specs.declared.actor_commands.output.Output.{Output}
use Rattle.controller_actors.specs.actor_commands.command_sends.Adding.{Adds, content_of}
use Rattle.controller_actors.proofs.actor_commands.command_sends.Broadcasting.{Adds-append, filter-more, link_passed, link_sent}
use Rattle.controller_actors.proofs.actor_commands.command_sends.broadcasts.send_to_links.Goals as goal
use Rattle.controller_actors.proofs.actor_commands.command_sends.broadcasts.send_to_links.Goals.{then-place-first+in_ok-send_copy, else-place-first}

pub loop-index-preserved : goal.loop-index-preserved
loop-index-preserved g c =
    let s = c.args.speaker.now in
    let t = s.wiring.now in
    let f = g.S.Services.frame_of c.args.services.now in
    let l = g.S.Services.links_of c.args.services.now in
    let p = c.args.port in
    let content = content_of c.args.content.now in
    let first = c.args.first in
    let at = c.loop-index.index in
    let place = c.linked_place-place.result in
    let places = map (λ (x : Link). x.place) (l.linked s.who.slot.0 p) in
    let old = c.loop-index.output in
    let new = c.if-place-first.output in
    let within : at < length places = omega (arith, c.loop-index-test.true, c.link_count-index-end.ensures, length-map (l.linked s.who.slot.0 p) (λ (x : Link). x.place)) in
    let here : Adds (send_each t s.me.0 f l s.who p content (filter (nat_le first) (place ∷ []))) old new =
    elim c.if-place-first.branch [
      | then-place-first+in_ok-send_copy w ↦
          let behind : first ≤ place = omega (arith, w.if-place-first.true) in
          subst (λ (o : Output). Adds (send_each t s.me.0 f l s.who p content (filter (nat_le first) (place ∷ []))) old o) (sym w.output-is)
          (link_sent t s.me.0 f l s.who p content first place place old w.send_copy.new.output behind refl w.in_ok-send_copy.ensures)
      | else-place-first w ↦
          let before : place < first = omega (arith, w.if-place-first.false) in
          subst (λ (o : Output). Adds (send_each t s.me.0 f l s.who p content (filter (nat_le first) (place ∷ []))) old o) (sym w.output-is)
          (link_passed t s.me.0 f l s.who p content first place old before)
    ]
    in
    subst (λ (ks : List ℕ). Adds (send_each t s.me.0 f l s.who p content ks) c.args.output.now new) (sym (filter-more first places at within))
    (Adds-append t s.me.0 f l s.who p content (filter (nat_le first) (take at places)) (filter (nat_le first) (get_or places at 0 ∷ [])) c.args.output.now old new c.loop-index.invariant
    (subst (λ (k : ℕ). Adds (send_each t s.me.0 f l s.who p content (filter (nat_le first) (k ∷ []))) old new) (c.linked_place-place.ensures (omega (arith, c.loop-index-test.true, c.link_count-index-end.ensures))) here))
