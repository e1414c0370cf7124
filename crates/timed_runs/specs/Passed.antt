-- What a source of timed lines gives next, when all is quiet and the timers have seen all that happened.
-- Lines are passed one after another. For a `settle` there stands a `settle`, and for an `advance` on whose way no timer
-- is due, too. A part begins at the first message, and has all messages up to the next line that is none; or it is the
-- moment at which a timer is due on the way of an `advance`, which then goes on at the same line.
use Rattle.std.specs.Prelude.{ℕ, ◌+◌, ◌-◌, Bool, true, false, List, [], ◌∷◌, ◌++◌, take, drop, Option, Some, None}
use Rattle.std.specs.List.{prefix_len}
use Rattle.inject_reader.specs.declared.inject_lines.accepted.Line.{Line}
use Rattle.inject_reader.specs.declared.inject_lines.accepted.What.{What}
use Rattle.inject_reader.specs.declared.inject_lines.accepted.What.TheVariants as whats
use Rattle.model_run.specs.fixed_lines.Fixed.{message_line}
use Rattle.room_timer.specs.Timers.{Timers, moment}
use Rattle.room_timer.specs.Expansion.{settle}

-- where a source stands: the lines that it gave before the part at which it stands, that part, the timers, how much is
-- left of the `advance` in which it stands, if it stands in one, and the lines that aren't passed, first that `advance`;
-- and whether it stands at a part
pub record Standing : Type 0 where
  pub gone : List Line
  pub part : List Line
  pub timers : Timers
  pub left : Option ℕ
  pub behind : List Line
  pub more : Bool

-- behind all lines
abbrev pub at_end : List Line → Timers → Standing
at_end gone ts = record { gone = gone; part = []; timers = ts; left = None; behind = []; more = false }

-- how many messages stand in front
abbrev pub messages_in_front : List Line → ℕ
messages_in_front lines = prefix_len message_line lines

-- at a part of messages, up to the next line that is none
abbrev pub at_messages : List Line → Timers → List Line → Standing
at_messages gone ts lines = record {
  gone = gone;
  part = take (messages_in_front lines) lines;
  timers = ts;
  left = None;
  behind = drop (messages_in_front lines) lines;
  more = true;
}

-- an `advance` under a number, up to this time: at its next moment, or at what the rest gives behind these lines and at
-- these timers
abbrev pub advancing : (List Line → Timers → Standing) → List Line → ℕ → ℕ → Timers → List Line → Option (List Line × Timers) → Standing
advancing rest gone number until ts lines None = rest (gone ++ settle number ∷ []) (record ts { time = until })
advancing rest gone number until ts lines (Some m) = record {
  gone = gone ++ settle number ∷ [];
  part = m.0;
  timers = m.1;
  left = Some (until - m.1.time);
  behind = lines;
  more = true;
}

-- the same of an `advance` that goes on by so much
abbrev pub advance_on : (List Line → Timers → Standing) → List Line → ℕ → ℕ → Timers → List Line → Standing
advance_on rest gone number time ts lines =
    advancing rest gone number (ts.time + time) ts lines (moment number ts (ts.time + time))

-- the first of these lines is passed, or a part begins at it
abbrev pub line_passed : (List Line → Timers → Standing) → List Line → Timers → List Line → ℕ → What → Standing
line_passed rest gone ts lines number whats.Settle = rest (gone ++ settle number ∷ []) ts
line_passed rest gone ts lines number (whats.Advance time) = advance_on rest gone number time ts lines
line_passed rest gone ts lines number (whats.Message target signal payload prio) = at_messages gone ts lines

-- lines are passed until a part begins
abbrev pub passed : List Line → List Line → Timers → Standing
passed [] gone ts = at_end gone ts
passed (l ∷ lines) gone ts = line_passed (passed lines) gone ts (l ∷ lines) l.number l.what

-- the same, where the first line may be an `advance` of which so much is left
abbrev pub passed_on : Option ℕ → List Line → List Line → Timers → Standing
passed_on None lines gone ts = passed lines gone ts
passed_on (Some time) [] gone ts = at_end gone ts
passed_on (Some time) (l ∷ lines) gone ts = advance_on (passed lines) gone l.number time ts (l ∷ lines)
