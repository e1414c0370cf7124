use Rattle.std.proofs.Common.{◌≡◌, ◌++◌, length}
use Rattle.controller_mail.proofs.queue.Queue.move_to.Given as goal

abbrev pub invariant-loop-m : goal.invariant-loop-m
invariant-loop-m l = l.all.items ++ l.self ≡ l.fn.all.items ++ l.fn.self

abbrev pub decreases-loop-m : goal.decreases-loop-m
decreases-loop-m l = length l.self
