use Rattle.std.proofs.Common.{◌≡◌, ◌++◌, map, length}
use Rattle.mail_seg.specs.Ends.{sides_of}
use Rattle.mail_seg.specs.Left.{queues_of}
use Rattle.mail_seg.proofs.close.apart.Given as goal

abbrev pub invariant-loop-end : goal.invariant-loop-end
invariant-loop-end l = record { rows : queues_of l.rows.items ++ map sides_of l.queue.items ≡ map sides_of l.fn.ends.items }

abbrev pub decreases-loop-end : goal.decreases-loop-end
decreases-loop-end l = length l.queue.items
