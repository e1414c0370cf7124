-- Laws of timers and expansions.
use Rattle.std.specs.Prelude.{◌≡◌, ℕ, ◌<◌, Bool, true, List, Some, None}
use Rattle.std.specs.List.{AllByRecursion}
use Rattle.journal.specs.declared.entry.Entry.{Entry}
use Rattle.room_wiring.specs.declared.tables.Tables.{Tables}
use Rattle.inject_reader.specs.declared.inject_lines.accepted.Line.{Line}
use Rattle.inject_reader.specs.declared.inject_lines.accepted.What.TheVariants as whats
use Rattle.inject_reader.specs.Fitting.{LinesFit}
use Rattle.room_timer.specs.declared.timer.Timer.{Timer}
use Rattle.room_timer.specs.Services.{hears_timeout}
use Rattle.room_timer.specs.Timers.{Timers, saw, moment}
use Rattle.room_timer.specs.Expansion.{Point, Expands}

-- each armed timer is due later than the time
abbrev pub AreLater : Timers → Type 0
AreLater ts = AllByRecursion (λ (x : Timer). ts.time < x.due) ts.armed

-- what is seen keeps that
abbrev pub SeeingKeepsLater : Type 0
SeeingKeepsLater = (t : Tables) (ts : Timers) (party : ℕ) (e : Entry) → AreLater ts → AreLater (saw t ts party e)

-- so does a moment
abbrev pub MomentsKeepLater : Type 0
MomentsKeepLater =
    (number : ℕ) (ts next : Timers) (until : ℕ) (ms : List Line)
    → AreLater ts → moment number ts until ≡ Some (ms, next) → AreLater next

-- and a time that comes where no timer is due until then
abbrev pub WaitingKeepsLater : Type 0
WaitingKeepsLater =
    (number : ℕ) (ts : Timers) (until : ℕ)
    → AreLater ts → moment number ts until ≡ None → AreLater (record ts { time = until })

-- timeouts come in where each timer was armed
abbrev pub AllHear : Tables → Timers → Type 0
AllHear t ts = AllByRecursion (λ (x : Timer). hears_timeout t x.at ≡ true) ts.armed

-- what is seen keeps that
abbrev pub SeeingKeepsHearing : Type 0
SeeingKeepsHearing = (t : Tables) (ts : Timers) (party : ℕ) (e : Entry) → AllHear t ts → AllHear t (saw t ts party e)

-- so does a moment, whose lines name what the wiring has
abbrev pub MomentsFit : Type 0
MomentsFit =
    (t : Tables) (number : ℕ) (ts next : Timers) (until : ℕ) (ms : List Line)
    → AllHear t ts → moment number ts until ≡ Some (ms, next) → AllHear t next × LinesFit t ms

-- lines come to one thing from a point on
abbrev pub LinesExpandOnce : Type 0
LinesExpandOnce =
    (t : Tables) (done : Bool) (p : Point) (lines xs ys left rest : List Line)
    → Expands t done p lines xs left → Expands t done p lines ys rest → (xs ≡ ys) × (left ≡ rest)

-- a line that doesn't move the time
abbrev pub IsPlain : Line → Type 0
IsPlain l = (time : ℕ) → l.what ≡ whats.Advance time → ⊥

-- lines that don't move the time come to themselves
abbrev pub PlainLinesStay : Type 0
PlainLinesStay =
    (t : Tables) (done : Bool) (p : Point) (lines xs left : List Line)
    → AllByRecursion IsPlain lines → Expands t done p lines xs left → xs ≡ lines
