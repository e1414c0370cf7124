use Rattle.std.proofs.Common.{◌≡◌, ◌+◌, ◌-◌, ◌≤◌, length}
use Rattle.layer_service.specs.layer_links.Kept.{point_at}
use Rattle.layer_service.proofs.layer_links.points.Points.list.Given as goal

abbrev pub invariant-loop-alloc : goal.invariant-loop-alloc
invariant-loop-alloc l = (point_at l.self-inside.by_port.items ≡ point_at l.initial.self-inside.by_port.items) × (length l.self-inside.by_port.items ≤ 65536)

abbrev pub decreases-loop-alloc : goal.decreases-loop-alloc
decreases-loop-alloc l = l.port + 1 - length l.self-inside.by_port.items
