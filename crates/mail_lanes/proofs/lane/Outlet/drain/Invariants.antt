use Rattle.std.proofs.Common.{◌≡◌, ◌++◌, ◌-◌, List, length, true}
use Rattle.room_kinds.specs.declared.message.Msg.{Msg}
use Rattle.mail_lanes.specs.Lanes.{out_lane}
use Rattle.mail_lanes.proofs.lane.Outlet.drain.Given as goal

abbrev pub invariant-loop-m : goal.invariant-loop-m
invariant-loop-m l = record {
  takes : (out_lane l.self).wire.takes ≡ true;
  posted : (out_lane l.self).posted ≡ (out_lane l.fn.self).posted;
  left : (left : List Msg) × (l.list.items ≡ l.fn.list.items ++ left) × ((out_lane l.self).taken ≡ (out_lane l.fn.self).taken ++ left);
}

abbrev pub decreases-loop-m : goal.decreases-loop-m
decreases-loop-m l = length (out_lane l.self).posted - length (out_lane l.self).taken
