use Rattle.std.proofs.Common.{◌≡◌, ℕ, ◌<◌, []}
use Rattle.actor_merge.specs.Mail.{lane}
use Rattle.room_verify.specs.Lanes.{lanes_in}
use Rattle.room_verify.proofs.lanes.LaneTable.is_empty.Given as goal

abbrev pub invariant-loop-receiver : goal.invariant-loop-receiver
invariant-loop-receiver l = (r s p : ℕ) → r < l.receiver → lanes_in l.self (lane s r p) ≡ []
