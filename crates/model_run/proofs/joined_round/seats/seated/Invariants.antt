use Rattle.std.proofs.Common.{◌≡◌, ◌+◌, ◌<◌, ◌++◌, ℕ, map, length, get_or}
use Rattle.model_run.specs.declared.joined_round.seat.Seat.{Seat}
use Rattle.model_run.proofs.joined_round.seats.seated.Given as goal

abbrev pub invariant-loop-number : goal.invariant-loop-number
invariant-loop-number g l = record {
  seats : length l.seats.items ≡ l.number;
  left : length l.controllers.items + l.number ≡ l.count;
  ends_left : length l.ends.items + l.number ≡ l.count;
  controllers : map (λ (s : Seat _). s.controller) l.seats.items ++ l.controllers.items ≡ l.fn.controllers.items;
  ends : map (λ (s : Seat _). s.end) l.seats.items ++ l.ends.items ≡ l.fn.ends.items;
  numbers : (i : ℕ) (d : Seat _) → i < l.number → (get_or l.seats.items i d).number ≡ i;
}
