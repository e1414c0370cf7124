-- The expansion of injection lines over journals: what the lines come to, once the timers are known.
-- Messages and `settle` stand in it as they are. For a line `advance` there stands, for each moment at which a timer
-- is due on the way, a `settle` and the timeouts of that moment; and at its end a `settle`. Which timers are armed is
-- told by the journals: by all that happened before the environment posted the next message. So a timer that is armed by
-- an actor that heard a timeout may be due within the same `advance`. Where the environment's journal doesn't reach a
-- moment, the expansion ends with it.
use Rattle.std.specs.Prelude.{◌≡◌, ℕ, zero, suc, ◌+◌, Bool, true, false, ◌||◌, ◌==◌, nat_lt, List, [], ◌∷◌, ◌++◌, filter, length, slice_index_or, Some, None, if◌then◌else◌}
use Rattle.journal.specs.declared.entry.Entry.{Entry}
use Rattle.journal.specs.declared.entry.Entry.TheVariants as entry
use Rattle.journal.specs.declared.entry.Journals.{Journals}
use Rattle.room_wiring.specs.declared.tables.Tables.{Tables}
use Rattle.inject_reader.specs.declared.inject_lines.accepted.Line.{Line}
use Rattle.inject_reader.specs.declared.inject_lines.accepted.What.{What}
use Rattle.inject_reader.specs.declared.inject_lines.accepted.What.TheVariants as whats
use Rattle.actor_merge.specs.World.{Placed}
use Rattle.actor_merge.specs.Merge.{IsMerge}
use Rattle.room_timer.specs.Timers.{Timers, no_timers, saw, moment}

-- whether an entry is something that happened, and not a start
abbrev pub is_event : Entry → Bool
is_event (entry.Start who state ns) = false
is_event (entry.Fetch stamp m) = true
is_event (entry.Turn stamp from sent did ns) = true
is_event (entry.Post stamp m) = true

-- what happened to each party; the environment is the party after the last controller
abbrev pub events_of : Tables → Journals → ℕ → List Entry
events_of t j party =
    filter is_event (
    if nat_lt party (length t.controllers) then slice_index_or j.controllers party []
    else if party == length t.controllers then j.environment
    else []
    )

-- ---- where an expansion stands

-- the timers, what happened after what they tell, and how many messages the lines had since
pub record Point : Type 0 where
  pub timers : Timers
  pub ahead : List Placed
  pub since : ℕ

-- before the first line
abbrev pub beginning : List Placed → Point
beginning merge = record { timers = no_timers; ahead = merge; since = 0 }

-- an entry before the first part of a cut list
abbrev pub before : Placed → List Placed × List Placed → List Placed × List Placed
before x cut = (x ∷ cut.0, cut.1)

-- what stands before the entry of a party behind so many of its entries, and the rest; all, where there is none
abbrev pub cut_at : ℕ → ℕ → List Placed → List Placed × List Placed
cut_at party count [] = ([], [])
cut_at party zero (x ∷ xs) = if x.party == party then ([], x ∷ xs) else before x (cut_at party zero xs)
cut_at party (suc count) (x ∷ xs) = before x (cut_at party (if x.party == party then count else suc count) xs)

-- the timers after these entries
abbrev pub saw_all : Tables → Timers → List Placed → Timers
saw_all t ts [] = ts
saw_all t ts (x ∷ xs) = saw_all t (saw t ts x.party x.entry) xs

-- what stands before the environment's next message behind those of the lines, and the rest
abbrev pub cut_of : Tables → Point → List Placed × List Placed
cut_of t p = cut_at (length t.controllers) p.since p.ahead

-- the timers see all that happened before the environment's next message behind those of the lines
abbrev pub caught_up : Tables → Point → Point
caught_up t p = record { timers = saw_all t p.timers (cut_of t p).0; ahead = (cut_of t p).1; since = 0 }

-- whether the environment posts that message
abbrev pub goes_on : Tables → Point → Bool
goes_on t p = nat_lt 0 (length (cut_of t p).1)

-- so many messages of the lines further
abbrev pub further : ℕ → Point → Point
further count p = record p { since = p.since + count }

-- at other timers
abbrev pub with_timers : Timers → Point → Point
with_timers ts p = record p { timers = ts }

-- ---- what lines come to

-- whether a line is a message
abbrev pub is_message : What → Bool
is_message whats.Settle = false
is_message (whats.Advance time) = false
is_message (whats.Message target signal payload prio) = true

-- `settle` under a number
abbrev pub settle : ℕ → Line
settle number = record { number = number; what = whats.Settle }

-- what the `advance` of a number comes to from a point on, up to this time, the point behind it, and whether it came to
-- its end
pub data Advances (t : Tables) (number until : ℕ) : Point → List Line → Point → Bool → Type 0 where
  -- no timer is due any more: the time comes
  over : (p : Point) → moment number (caught_up t p).timers until ≡ None
      → Advances t number until p (settle number ∷ [])
      (with_timers (record (caught_up t p).timers { time = until }) (caught_up t p)) true
  -- a moment, and what follows it
  more : (p q : Point) (ms xs : List Line) (ts : Timers) (whole : Bool)
      → moment number (caught_up t p).timers until ≡ Some (ms, ts) → goes_on t p ≡ true
      → Advances t number until (further (length ms) (with_timers ts (caught_up t p))) xs q whole
      → Advances t number until p (settle number ∷ ms ++ xs) q whole
  -- a moment that the environment doesn't reach
  last : (p : Point) (ms : List Line) (ts : Timers)
      → moment number (caught_up t p).timers until ≡ Some (ms, ts) → goes_on t p ≡ false
      → Advances t number until p (settle number ∷ ms) (further (length ms) (with_timers ts (caught_up t p))) false

-- what is left of lines where the first of them leads to this point, and this is left of those behind it: it is finished
-- where the run is done or the environment goes on, since all was quiet then
abbrev pub left_from : Tables → Bool → Point → List Line → List Line → List Line
left_from t done p lines behind = if done || goes_on t p then behind else lines

-- what lines come to from a point on, and those from the first `settle` or `advance` on that wasn't finished
pub data Expands (t : Tables) (done : Bool) : Point → List Line → List Line → List Line → Type 0 where
  nothing : (p : Point) → Expands t done p [] [] []
  message : (p : Point) (l : Line) (lines xs left : List Line)
      → is_message l.what ≡ true → Expands t done (further 1 p) lines xs left
      → Expands t done p (l ∷ lines) (l ∷ xs) left
  settled : (p : Point) (l : Line) (lines xs left : List Line)
      → l.what ≡ whats.Settle → Expands t done p lines xs left
      → Expands t done p (l ∷ lines) (l ∷ xs) (left_from t done p (l ∷ lines) left)
  advanced : (p q : Point) (l : Line) (time : ℕ) (lines ms xs left : List Line)
      → l.what ≡ whats.Advance time → Advances t l.number (p.timers.time + time) p ms q true
      → Expands t done q lines xs left
      → Expands t done p (l ∷ lines) (ms ++ xs) (left_from t done q (l ∷ lines) left)
  cut_off : (p q : Point) (l : Line) (time : ℕ) (lines ms : List Line)
      → l.what ≡ whats.Advance time → Advances t l.number (p.timers.time + time) p ms q false
      → Expands t done p (l ∷ lines) ms (l ∷ lines)

-- the expansion of lines over journals, and the lines from the first on that wasn't finished
pub record IsExpansion (t : Tables) (lines : List Line) (j : Journals) (expansion left : List Line) : Type 0 where
  pub merge : List Placed
  pub is : IsMerge (events_of t j) merge
  pub expands : Expands t j.done (beginning merge) lines expansion left
