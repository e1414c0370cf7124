use Rattle.std.proofs.Common.{Some}
use Rattle.std.specs.List.{flat_map, range_with_len}
use Rattle.room_verify.specs.Lefts.{Strips, coming_at}
use Rattle.room_verify.proofs.lefts.behind_lanes.Given as goal

abbrev pub invariant-loop-prio : goal.invariant-loop-prio
invariant-loop-prio l = Strips l.told (flat_map (coming_at l.c.0 l.lanes) (range_with_len 0 l.prio)) (Some l.rest)
