use Rattle.std.proofs.Common.{◌≡◌, [], replicate}
use Rattle.room_verify.proofs.lanes.empty_queues.Given as goal

abbrev pub invariant-loop-at : goal.invariant-loop-at
invariant-loop-at l = l.queues.items ≡ replicate l._at []
