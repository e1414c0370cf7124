use Rattle.std.proofs.Common.{◌≡◌, ◌++◌, map, length}
use Rattle.model_run.specs.declared.joined_round.seat.Seat.{Seat}
use Rattle.model_run.proofs.joined_round.seats.unseated.Given as goal

abbrev pub invariant-loop-seat : goal.invariant-loop-seat
invariant-loop-seat g l = record {
  controllers : l.controllers.items ++ map (λ (s : Seat _). s.controller) l.seats.items ≡ map (λ (s : Seat _). s.controller) l.fn.seats.items;
  ends : l.ends.items ++ map (λ (s : Seat _). s.end) l.seats.items ≡ map (λ (s : Seat _). s.end) l.fn.seats.items;
}

abbrev pub decreases-loop-seat : goal.decreases-loop-seat
decreases-loop-seat g l = length l.seats.items
