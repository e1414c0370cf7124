-- Laws of timed runs, and of walks over timed lines.
use Rattle.std.specs.Prelude.{◌≡◌, ℕ, Bool, true, false, List, [], drop}
use Rattle.std.specs.List.{AllByRecursion}
use Rattle.journal.specs.declared.entry.Journals.{Journals}
use Rattle.room_wiring.specs.declared.tables.Tables.{Tables}
use Rattle.inject_reader.specs.declared.inject_lines.accepted.Line.{Line}
use Rattle.inject_reader.specs.Fitting.{LinesFit}
use Rattle.controller_actors.specs.declared.plant.Plant.{Plant}
use Rattle.model_run.specs.part_source.Calls.{Seen, seen_in, Asked}
use Rattle.model_run.specs.part_source.Parts.{NextPart}
use Rattle.model_run.specs.run_ends.Runs.{IsRun, RanThrough}
use Rattle.room_timer.specs.Expansion.{Point, Expands, IsExpansion}
use Rattle.room_timer.specs.Laws.{AllHear, IsPlain}
use Rattle.timed_runs.specs.Timed.{numbers_of, IsTimedRun, NoneIsDue}
use Rattle.timed_runs.specs.Passed.{messages_in_front}
use Rattle.timed_runs.specs.Walks.{Walk, given_by, Walks, Fits, Begins, Goes, Stood}

-- from where timeouts come in wherever a timer is armed, lines that name what the wiring has come to such lines
abbrev pub ExpansionsFit : Type 0
ExpansionsFit =
    (t : Tables) (done : Bool) (p : Point) (lines xs left : List Line)
    → LinesFit t lines → AllHear t p.timers → Expands t done p lines xs left → LinesFit t xs

-- where a run is done and all its lines were finished, no armed timer is due
abbrev pub DoneTimersAreLater : Type 0
DoneTimersAreLater =
    (t : Tables) (lines expansion left : List Line) (j : Journals)
    → IsExpansion t lines j expansion left → j.done ≡ true → left ≡ [] → NoneIsDue t lines j

-- a walk from part to part goes on as a source of parts does; and where no part is left, no line is
abbrev pub WalksGiveParts : Type 0
WalksGiveParts =
    (old new : Walk) (js : Seen) (more : Bool)
    → Walks old.wiring old js new more → messages_in_front (drop old.to old.lines) ≡ 0
    → NextPart (given_by old) (given_by new) new.part more × (messages_in_front (drop new.to new.lines) ≡ 0)
    × (more ≡ false → numbers_of (drop new.to new.lines) ≡ [])

-- its parts name what the wiring has, as its lines do
abbrev pub WalksStayFitting : Type 0
WalksStayFitting =
    (t : Tables) (old new : Walk) (js : Seen) (more : Bool) → Walks old.wiring old js new more → Fits t old → Fits t new

-- the journals of a run whose parts came from such a walk are those of a timed run over its lines
abbrev pub WalksGiveTimedRuns : Type 0
WalksGiveTimedRuns =
    (plant : Plant) (lines : List Line) (fuel : ℕ) (j : Journals) (first end : Walk)
    → LinesFit plant.wiring lines → Begins plant.wiring lines first → Asked Goes (Stood plant fuel) first end (seen_in j)
    → RanThrough plant (given_by end) (numbers_of (drop end.to end.lines)) fuel j → IsTimedRun plant lines fuel j

-- and over lines that don't move the time on, those of a run over the lines
abbrev pub PlainWalksGiveRuns : Type 0
PlainWalksGiveRuns =
    (plant : Plant) (lines : List Line) (fuel : ℕ) (j : Journals) (first end : Walk)
    → AllByRecursion IsPlain lines → Begins plant.wiring lines first → Asked Goes (Stood plant fuel) first end (seen_in j)
    → RanThrough plant (given_by end) (numbers_of (drop end.to end.lines)) fuel j → IsRun plant lines fuel j
