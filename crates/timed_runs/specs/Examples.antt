-- Worked examples: where a source of timed lines comes when all is quiet, over the model of `room_timer`'s examples.
use Rattle.std.specs.Prelude.{◌≡◌, ℕ, true, List, [], ◌∷◌, Option, Some, None}
use Rattle.inject_reader.specs.declared.inject_lines.accepted.Line.{Line}
use Rattle.actor_duties.specs.Words.{endpoint}
use Rattle.room_timer.specs.Timers.{Timers}
use Rattle.room_timer.specs.Expansion.{settle}
use Rattle.room_timer.specs.Examples.{advance, timeout_under}
use Rattle.timed_runs.specs.Passed.{Standing, at_end, passed_on}

-- the user's timer is armed at this time
abbrev pub armed : ℕ → ℕ → Timers
armed time due = record { time = time; armed = record { at = endpoint 2 1 1 0; due = due } ∷ [] }

-- no timer is armed at this time
abbrev pub unarmed : ℕ → Timers
unarmed time = record { time = time; armed = [] }

-- at a part with these timers, with so much left of an `advance`, and in front of these lines
abbrev pub at_part : List Line → List Line → Timers → Option ℕ → List Line → Standing
at_part gone part ts left behind =
    record { gone = gone; part = part; timers = ts; left = left; behind = behind; more = true }

-- `advance 4` and `advance 3`: the timer is due at 5, when 2 are left of the second
abbrev pub ComesToAMoment : Type 0
ComesToAMoment =
    passed_on None (advance 1 4 ∷ advance 2 3 ∷ []) [] (armed 0 5)
    ≡ at_part (settle 1 ∷ settle 2 ∷ []) (timeout_under 2 ∷ []) (unarmed 5) (Some 2) (advance 2 3 ∷ [])

-- from there on no timer is due, and all lines are passed
abbrev pub ComesToTheEnd : Type 0
ComesToTheEnd =
    passed_on (Some 2) (advance 2 3 ∷ []) (settle 1 ∷ settle 2 ∷ timeout_under 2 ∷ []) (unarmed 5)
    ≡ at_end (settle 1 ∷ settle 2 ∷ timeout_under 2 ∷ settle 2 ∷ []) (unarmed 7)

-- `advance 4` alone: the timer of 5 isn't yet due
abbrev pub IsNotYetDue : Type 0
IsNotYetDue = passed_on None (advance 1 4 ∷ []) [] (armed 0 5) ≡ at_end (settle 1 ∷ []) (armed 4 5)

-- behind an `advance` a part of two messages, up to the next `advance`
abbrev pub ComesToMessages : Type 0
ComesToMessages =
    passed_on None (advance 1 4 ∷ timeout_under 2 ∷ timeout_under 3 ∷ advance 4 1 ∷ []) [] (armed 0 5)
    ≡ at_part (settle 1 ∷ []) (timeout_under 2 ∷ timeout_under 3 ∷ []) (armed 4 5) None (advance 4 1 ∷ [])
