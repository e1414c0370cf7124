use Rattle.std.proofs.Common.{◌≡◌, false, length}
use Rattle.actor_merge.specs.Mail.{lane}
use Rattle.actor_world.specs.Journals.{left}
use Rattle.room_verify.specs.Lanes.{lanes_in}
use Rattle.room_verify.proofs.LeftLaw.{Told}
use Rattle.room_verify.proofs.lefts.behind_lane.Given as goal

abbrev pub invariant-loop-i : goal.invariant-loop-i
invariant-loop-i l = record {
  same : Told (left l.c.0 false) (lanes_in l.lanes (lane l.sender.0 l.c.0 l.prio.0)) l.told l.i;
  end : l.i-end ≡ length l.told;
}
