use Rattle.std.proofs.Common.{◌≡◌, ◌++◌, length}
use Rattle.controller_actors.proofs.actor_commands.deferred_messages.deferred.DeferredMessages.move_to.Given as goal

abbrev pub invariant-loop-m : goal.invariant-loop-m
invariant-loop-m l = l.self ++ l.back ≡ l.fn.self ++ l.fn.back

abbrev pub decreases-loop-m : goal.decreases-loop-m
decreases-loop-m l = length l.self
