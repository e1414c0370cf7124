use Rattle.std.proofs.Common.{◌≡◌, ◌++◌, length}
use Rattle.mail_core.proofs.local_lane.Lane.move_to.Given as goal

abbrev pub invariant-loop-entry : goal.invariant-loop-entry
invariant-loop-entry l = l.list.items ++ l.self ≡ l.fn.list.items ++ l.fn.self

abbrev pub decreases-loop-entry : goal.decreases-loop-entry
decreases-loop-entry l = length l.self
