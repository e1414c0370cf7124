use Rattle.std.proofs.Common.{◌≡◌, map}
use Rattle.std.specs.List.{range_with_len}
use Rattle.actor_world.specs.Start.{lives_from_start}
use Rattle.frame_service.proofs.frame_start.Started.{row_at}
use Rattle.frame_service.proofs.frame_start.first_lives.Given as goal

abbrev pub invariant-loop-number : goal.invariant-loop-number
invariant-loop-number l = record {
  starts : l.starts.items ≡ map (lives_from_start l.wiring) (range_with_len 0 l.number);
  rows : l.known ≡ map (row_at l.wiring l.me.0) (range_with_len 0 l.number);
}
