use Rattle.std.proofs.Common.{◌≡◌, ℕ, ◌<◌, []}
use Rattle.actor_merge.specs.Mail.{lane}
use Rattle.room_verify.specs.Lanes.{lanes_in}
use Rattle.room_verify.proofs.lanes.LaneTable.is_empty_to.Given as goal

abbrev pub invariant-loop-sender : goal.invariant-loop-sender
invariant-loop-sender l = (s p : ℕ) → s < l.sender → lanes_in l.self (lane s l.receiver.0 p) ≡ []
