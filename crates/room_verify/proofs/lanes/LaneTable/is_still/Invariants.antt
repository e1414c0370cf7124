use Rattle.std.proofs.Common.{◌≡◌, ℕ, ◌<◌, []}
use Rattle.actor_merge.specs.Mail.{lane}
use Rattle.room_verify.specs.Lanes.{lanes_in}
use Rattle.room_verify.proofs.lanes.LaneTable.is_still.Given as goal

abbrev pub invariant-loop-prio : goal.invariant-loop-prio
invariant-loop-prio l = (k : ℕ) → k < l.prio → lanes_in l.self (lane l.sender.0 l.receiver.0 k) ≡ []
