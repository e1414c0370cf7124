use Rattle.std.proofs.Common.{false, length}
use Rattle.actor_duties.specs.State.{Frame, Links}
use Rattle.controller_actors.specs.actor_commands.Doings.{AppliesAll, Doing, IsInHand}
use Rattle.controller_actors.proofs.actor_commands.commands.apply_all.Given as goal

-- with the rest of the commands, all are applied
abbrev pub invariant-loop-command : goal.invariant-loop-command
invariant-loop-command g l = record {
  serves : g.S.Services.serves l.speaker.wiring.now l.speaker.me.0 l.services;
  hand : IsInHand l.fn.message l.hand.kept l.hand.message;
  rest : (f : Frame) (k : Links) (new : Doing)
      → AppliesAll l.speaker.wiring.now l.speaker.me.0 (g.S.Services.frame_of l.services) (g.S.Services.links_of l.services) f k l.speaker.who l.fn.message l.queue.items (record { deferred = l.deferred; output = l.output; kept = l.hand.kept }) new
      → AppliesAll l.speaker.wiring.now l.speaker.me.0 (g.S.Services.frame_of l.fn.services) (g.S.Services.links_of l.fn.services) f k l.speaker.who l.fn.message l.fn.commands (record { deferred = l.fn.deferred; output = l.fn.output; kept = false }) new;
}

abbrev pub decreases-loop-command : goal.decreases-loop-command
decreases-loop-command g l = length l.queue.items
