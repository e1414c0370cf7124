use Rattle.std.proofs.Common.{◌≡◌, not, length}
use Rattle.std.specs.Prelude.{filter}
use Rattle.std.specs.Map.{values_of}
use Rattle.room_timer.specs.declared.timer.Timer.{Timer}
use Rattle.room_timer.specs.Timers.{is_due}
use Rattle.room_timer.proofs.Placed.{AllFrom}
use Rattle.room_timer.proofs.armed.ArmedTimers.expire.Given as goal

abbrev pub invariant-loop-key : goal.invariant-loop-key
invariant-loop-key l =
    (filter (λ (x : Timer). not (is_due l.time x)) (values_of l.self) ≡ filter (λ (x : Timer). not (is_due l.time x)) (values_of l.initial.self))
    × AllFrom l.time (values_of l.self)

abbrev pub decreases-loop-key : goal.decreases-loop-key
decreases-loop-key l = length l.self
