use Rattle.std.specs.List.{range_with_len}
use Rattle.actor_duties.specs.Commands.{send_each}
use Rattle.controller_actors.specs.actor_commands.command_sends.Adding.{Adds, content_of}
use Rattle.controller_actors.proofs.actor_commands.command_sends.broadcasts.send_to_places.Given as goal

abbrev pub invariant-loop-place : goal.invariant-loop-place
invariant-loop-place g l =
    let s = l.speaker in
    Adds (send_each s.wiring.now s.me.0 (g.S.Services.frame_of l.services) (g.S.Services.links_of l.services) s.who l.port (content_of l.content) (range_with_len 0 l.place)) l.fn.output l.output
