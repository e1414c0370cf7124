-- A walk over lines that move virtual time on, from part to part, as a source of parts does it in a run.
use Rattle.std.specs.Prelude.{◌≡◌, ℕ, ◌+◌, Bool, List, [], ◌++◌, length, take, drop, replicate, Option, None}
use Rattle.room_wiring.specs.declared.tables.Tables.{Tables}
use Rattle.inject_reader.specs.declared.inject_lines.accepted.Line.{Line}
use Rattle.inject_reader.specs.Fitting.{LinesFit}
use Rattle.actor_merge.specs.World.{Placed}
use Rattle.controller_actors.specs.declared.plant.Plant.{Plant}
use Rattle.model_run.specs.part_source.Calls.{Seen, StoodQuiet}
use Rattle.room_timer.specs.Timers.{Timers, no_timers}
use Rattle.room_timer.specs.Expansion.{saw_all}
use Rattle.room_timer.specs.Laws.{AllHear}
use Rattle.timed_runs.specs.Unseen.{journal_at, Sees}
use Rattle.timed_runs.specs.Passed.{Standing, passed_on, messages_in_front}

-- where a walk stands: the lines and the wiring over which it goes, how many of the lines were passed, how much is left
-- of the `advance` in which it stands, if it stands in one, the timers, how many entries of each party they have seen,
-- the lines that were given before the part at which it stands, and that part
pub record Walk : Type 0 where
  pub wiring : Tables
  pub lines : List Line
  pub to : ℕ
  pub left : Option ℕ
  pub timers : Timers
  pub seen : List ℕ
  pub gone : List Line
  pub part : List Line

-- all lines that were given so far
abbrev pub given_by : Walk → List Line
given_by w = w.gone ++ w.part

-- where it stands
abbrev pub standing : Walk → Bool → Standing
standing w more = record {
  gone = w.gone;
  part = w.part;
  timers = w.timers;
  left = w.left;
  behind = drop w.to w.lines;
  more = more;
}

-- it saw these journals, and went on to the next part
pub record Walks (t : Tables) (old : Walk) (js : Seen) (new : Walk) (more : Bool) : Type 0 where
  pub wiring : new.wiring ≡ old.wiring
  pub lines : new.lines ≡ old.lines
  pub found : List Placed
  pub sees : Sees (length t.controllers + 1) (journal_at t js) old.seen found new.seen
  pub goes : passed_on old.left (drop old.to old.lines) (given_by old) (saw_all t old.timers found) ≡ standing new more

-- its lines and its part name what this wiring has, and timeouts come in where its timers were armed
pub record Fits (t : Tables) (w : Walk) : Type 0 where
  pub wiring : w.wiring ≡ t
  pub lines : LinesFit t w.lines
  pub part : LinesFit t w.part
  pub hears : AllHear t w.timers

-- at the first part, the messages in front, with no timers and nothing seen
pub record Begins (t : Tables) (lines : List Line) (w : Walk) : Type 0 where
  pub wiring : w.wiring ≡ t
  pub lines_are : w.lines ≡ lines
  pub to : w.to ≡ messages_in_front lines
  pub left : w.left ≡ None
  pub timers : w.timers ≡ no_timers
  pub seen : w.seen ≡ replicate (length t.controllers + 1) 0
  pub gone : w.gone ≡ []
  pub part : w.part ≡ take (messages_in_front lines) lines

-- what it may become when it is asked and sees these journals
abbrev pub Goes : Walk → Seen → Walk → Type 0
Goes old js new = (more : Bool) × Walks old.wiring old js new more

-- these journals are those of a run that is done with all lines that it gave
abbrev pub Stood : Plant → ℕ → Walk → Seen → Type 0
Stood plant fuel w js = StoodQuiet plant (given_by w) fuel js
