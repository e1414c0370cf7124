-- A walk over timed lines, line by line.
use Rattle.std.specs.Prelude.{◌≡◌, ℕ, ◌+◌, ◌-◌, Bool, true, false, [], ◌∷◌, ◌++◌, take, drop, Some, None}
use Rattle.room_timer.specs.Timers.{Timers, moment}
use Rattle.room_timer.specs.Expansion.{settle}
use Rattle.timed_runs.specs.Passed.{Standing, passed_on, messages_in_front}
use Rattle.timed_runs.specs.Walks.{Walk, standing}

-- where it comes from here, where it doesn't stand at a part
abbrev pub outcome : Walk → Standing
outcome w = passed_on w.left (drop w.to w.lines) w.gone w.timers

-- it goes over the same lines of the same wiring, and nothing was seen meanwhile
pub record StaysOn (old new : Walk) : Type 0 where
  pub wiring : new.wiring ≡ old.wiring
  pub lines : new.lines ≡ old.lines
  pub seen : new.seen ≡ old.seen

-- one line was passed, and the part is still to come; or it is there
pub record Steps (old new : Walk) (begun : Bool) : Type 0 where
  pub stays : StaysOn old new
  pub here : begun ≡ true → outcome old ≡ standing new true
  pub goes_on : begun ≡ false → outcome old ≡ outcome new
  pub empty : begun ≡ false → new.part ≡ []
  pub fewer : begun ≡ false → new.to ≡ old.to + 1

-- lines were passed until a part begins, or all of them
pub record GoesOn (old new : Walk) (more : Bool) : Type 0 where
  pub stays : StaysOn old new
  pub goes : outcome old ≡ standing new more

-- ---- a line, step by step

-- a line was passed, for which a `settle` of this number stands, and the timers are these
pub record Passes (number : ℕ) (ts : Timers) (old new : Walk) : Type 0 where
  pub stays : StaysOn old new
  pub gone : new.gone ≡ old.gone ++ settle number ∷ []
  pub part : new.part ≡ old.part
  pub timers : new.timers ≡ ts
  pub left : new.left ≡ None
  pub to : new.to ≡ old.to + 1

-- it stands at the next moment of an `advance` of this number, which goes up to this time
pub record ComesTo (number until : ℕ) (old new : Walk) : Type 0 where
  pub stays : StaysOn old new
  pub moment : moment number old.timers until ≡ Some (new.part, new.timers)
  pub gone : new.gone ≡ old.gone ++ settle number ∷ []
  pub left : new.left ≡ Some (until - new.timers.time)
  pub to : new.to ≡ old.to

-- an `advance` of this number goes on by so much: to its next moment, or it is passed
pub record Advances (number time : ℕ) (old new : Walk) (begun : Bool) : Type 0 where
  pub comes : begun ≡ true → ComesTo number (old.timers.time + time) old new
  pub none : begun ≡ false → moment number old.timers (old.timers.time + time) ≡ None
  pub over : begun ≡ false → Passes number (record old.timers { time = old.timers.time + time }) old new

-- the messages in front became its part
pub record Takes (old new : Walk) : Type 0 where
  pub stays : StaysOn old new
  pub gone : new.gone ≡ old.gone
  pub part : new.part ≡ take (messages_in_front (drop old.to old.lines)) (drop old.to old.lines)
  pub timers : new.timers ≡ old.timers
  pub left : new.left ≡ old.left
  pub to : new.to ≡ old.to + messages_in_front (drop old.to old.lines)
