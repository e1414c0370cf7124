use Rattle.std.proofs.Common.{◌≡◌, ◌++◌, ◌-◌}
use Rattle.std.specs.List.{range_with_len}
use Rattle.layer_service.specs.layer_links.Kept.{point_at, withdrawals}
use Rattle.layer_service.proofs.layer_links.points.Points.withdraw_each.Given as goal

abbrev pub invariant-loop-index : goal.invariant-loop-index
invariant-loop-index l =
    l.initial.out ++ withdrawals l.me.0 l.actor (point_at l.self) (range_with_len 0 l.ports)
    ≡ l.out ++ withdrawals l.me.0 l.actor (point_at l.self) (range_with_len l.index (l.ports - l.index))
