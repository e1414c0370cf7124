use Rattle.std.proofs.Common.{◌+◌, ◌*◌, length}
use Rattle.std.specs.Prelude.{reverse}
use Rattle.room_tokens.specs.action_tokens.Single.{left}
use Rattle.action_parse.specs.Expected.{Accepted}
use Rattle.action_parse.proofs.Steps.{Same}
use Rattle.action_parse.proofs.recogniser.accepts.Given as goal

abbrev pub invariant-loop-goal : goal.invariant-loop-goal
invariant-loop-goal l = Same (Accepted (reverse l.expected) (left l.fn.rest)) (reverse l.stack.items) (left l.rest)

abbrev pub decreases-loop-goal : goal.decreases-loop-goal
decreases-loop-goal l = 16 * length (left l.rest) + length l.stack.items
