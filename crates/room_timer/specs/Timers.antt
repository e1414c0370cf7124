-- Timers, as the entries of journals tell them.
-- Virtual time begins at 0 and is moved by the lines of an injection text alone. A message `startTimer` to a timing
-- service arms the timer of the place that sent it, in place of the one that was armed there; `killTimer` disarms it; and
-- with an actor its timers end. A timer is due after its delay, of which the least is 1. The virtual time, the messages
-- and the least delay are this project's own.
use Rattle.std.specs.Prelude.{ℕ, ◌+◌, min, ℤ, pos, int_lt, unsigned_abs, Bool, false, not, ◌&&◌, ◌==◌, nat_lt, nat_le, List, [], ◌∷◌, ◌++◌, map, filter, length, position, slice_index_or, Option, Some, None, option_map, option_and_then, if◌then◌else◌}
use Rattle.std.specs.Option.{option_map_or}
use Rattle.std.specs.List.{list_any, remove}
use Rattle.room_kinds.specs.declared.message.Msg.{Msg}
use Rattle.room_kinds.specs.declared.note.Note.{Note}
use Rattle.room_kinds.specs.declared.note.Note.TheVariants as notes
use Rattle.room_kinds.specs.declared.numbers.Endpoint.{Endpoint}
use Rattle.journal.specs.declared.entry.Entry.{Entry}
use Rattle.journal.specs.declared.entry.Entry.TheVariants as entry
use Rattle.room_wiring.specs.declared.tables.Tables.{Tables}
use Rattle.inject_reader.specs.declared.inject_lines.accepted.Line.{Line}
use Rattle.inject_reader.specs.declared.inject_lines.accepted.What.TheVariants as whats
use Rattle.actor_duties.specs.Words.{is_endpoint, is_incarnation, whose}
use Rattle.room_timer.specs.declared.timer.Timer.{Timer}
use Rattle.room_timer.specs.Services.{is_timing, hears_timeout, start_timer, kill_timer, timeout, general}

-- the virtual time, and the timers that are armed, in order of arming
pub record Timers : Type 0 where
  pub time : ℕ
  pub armed : List Timer

-- at the start
abbrev pub no_timers : Timers
no_timers = record { time = 0; armed = [] }

-- ---- what entries do to them

-- the time that a delay takes, 1 at least
abbrev pub delay_of : ℤ → ℕ
delay_of delay = if int_lt delay (pos 1) then 1 else unsigned_abs delay

-- whether a timer is that of this place
abbrev pub is_at : Endpoint → Timer → Bool
is_at at x = is_endpoint x.at at

-- timers without the one of this place, if there is one
unfoldable pub disarmed : Endpoint → List Timer → List Timer
disarmed at xs = option_map_or (remove xs) (position (is_at at) xs) xs

-- the timer of this place is armed, in place of the one before
abbrev pub armed_at : Timers → Endpoint → ℤ → Timers
armed_at ts at delay =
    record ts { armed = disarmed at ts.armed ++ record { at = at; due = ts.time + delay_of delay } ∷ [] }

-- what a timing service is asked for by this place
abbrev pub asked : Timers → Endpoint → ℕ → List ℤ → Timers
asked ts at signal numbers =
    if signal == start_timer then armed_at ts at (slice_index_or numbers 0 (pos 0))
    else if signal == kill_timer then record ts { armed = disarmed at ts.armed }
    else ts

-- whether a message goes from this place to a timing service; at priority 0 are messages of the system
abbrev pub is_request : Tables → Msg → Endpoint → Bool
is_request t m at = nat_lt 0 m.prio.0 && is_timing t m.target && hears_timeout t at

-- after a message that was sent at this place, if at any
abbrev pub sent_at : Tables → Timers → Msg → Option Endpoint → Timers
sent_at t ts m None = ts
sent_at t ts m (Some at) = if is_request t m at then asked ts at m.signal m.payload else ts

-- whether a note tells that the actor of this place went down
abbrev pub is_down : Endpoint → Note → Bool
is_down at notes.Zero = false
is_down at notes.NoMessage = false
is_down at (notes.Unbound port place) = false
is_down at (notes.Recall count) = false
is_down at (notes.Up who state) = false
is_down at (notes.Down who lost) = is_incarnation who (whose at)

-- whether a timer's actor didn't go down by these notes
abbrev pub outlives : List Note → Timer → Bool
outlives ns x = not (list_any (is_down x.at) ns)

-- the timers after an entry of a party
unfoldable pub saw : Tables → Timers → ℕ → Entry → Timers
saw t ts party (entry.Start who state ns) = ts
saw t ts party (entry.Fetch stamp m) = ts
saw t ts party (entry.Turn stamp from sent did ns) = record ts { armed = filter (outlives ns) ts.armed }
saw t ts party (entry.Post stamp m) = if nat_lt party (length t.controllers) then sent_at t ts m m.source else ts

-- ---- what is due

-- the lesser of two times, if there are any
abbrev pub sooner : Option ℕ → Option ℕ → Option ℕ
sooner None other = other
sooner (Some time) None = Some time
sooner (Some time) (Some other) = Some (min time other)

-- the least due time
abbrev pub earliest : List Timer → Option ℕ
earliest [] = None
earliest (x ∷ xs) = sooner (Some x.due) (earliest xs)

-- that time, where it is this one or earlier
unfoldable pub due_by : ℕ → List Timer → Option ℕ
due_by until xs = option_and_then (λ time. if nat_le time until then Some time else None) (earliest xs)

-- whether a timer is due at this time
abbrev pub is_due : ℕ → Timer → Bool
is_due time x = x.due == time

-- a timeout comes to whoever stands there, under the number of this line
abbrev pub timeout_line : ℕ → Timer → Line
timeout_line number x = record {
  number = number;
  what = whats.Message (record x.at { generation = record { 0 = 0 } }) timeout [] (record { 0 = general });
}

-- this time comes: the timeouts of the timers that are due, in order of arming, and the timers that are left
abbrev pub expired : ℕ → Timers → ℕ → List Line × Timers
expired number ts time = (
  map (timeout_line number) (filter (is_due time) ts.armed),
  record { time = time; armed = filter (λ x. not (is_due time x)) ts.armed },
)

-- the next moment at which a timer is due, if there is one until this time: its lines under this number, and the
-- timers after it
abbrev pub moment : ℕ → Timers → ℕ → Option (List Line × Timers)
moment number ts until = option_map (expired number ts) (due_by until ts.armed)
