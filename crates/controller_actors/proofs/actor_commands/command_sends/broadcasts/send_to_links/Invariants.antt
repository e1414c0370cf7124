use Rattle.std.proofs.Common.{map, filter, take, nat_le}
use Rattle.actor_duties.specs.State.{Link}
use Rattle.actor_duties.specs.Commands.{send_each}
use Rattle.controller_actors.specs.actor_commands.command_sends.Adding.{Adds, content_of}
use Rattle.controller_actors.proofs.actor_commands.command_sends.broadcasts.send_to_links.Given as goal

abbrev pub invariant-loop-index : goal.invariant-loop-index
invariant-loop-index g l =
    let s = l.speaker in
    let links = g.S.Services.links_of l.services in
    let places = map (λ (x : Link). x.place) (links.linked s.who.slot.0 l.port) in
    Adds (send_each s.wiring.now s.me.0 (g.S.Services.frame_of l.services) links s.who l.port (content_of l.content) (filter (nat_le l.first) (take l.index places))) l.fn.output l.output
