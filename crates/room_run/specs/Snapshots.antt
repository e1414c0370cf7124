-- At which stamps of journals `show` shows something.
-- Where texts are told and accepted and no read and no write failed, a call ends for want of memory, or as done where the
-- journals have a snapshot at the stamp by the model's charts, or as unlawful where they have none. And of what `run`
-- printed over lines that don't move virtual time on there is one at each stamp.
use Rattle.std.specs.Prelude.{◌≡◌, ℕ, ◌≤◌, List, length, Some}
use Rattle.room_outside.specs.Shown.{Shown}
use Rattle.inject_reader.specs.Fitting.{AreUntimed}
use Rattle.inject_reader.specs.declared.inject_lines.accepted.Line.{Line}
use Rattle.journal.specs.declared.entry.Journals.{Journals}
use Rattle.tied_journals.specs.Text.{tied_text_of}
use Rattle.controller_actors.specs.declared.plant.Plant.{Plant}
use Rattle.model_run.specs.part_posts.Items.{items_of}
use Rattle.law_charts.specs.Charts.{behaviour_by_charts}
use Rattle.room_show.specs.Text.{snapshot_text}
use Rattle.room_show.specs.declared.snapshot.Snapshot.{Snapshot}
use Rattle.room_verify.specs.Shown.{IsShown}
use Rattle.room_verify.specs.Showing.{charts_observer}
use Rattle.room_run.specs.Words.{Files, Judged, Show, asked_by}
use Rattle.room_run.specs.Conversions.{most_journal_bytes}
use Rattle.room_run.specs.Causes.{Causes, IsSeen}
use Rattle.room_run.specs.Outcome.{Answers, IsTimedRunOfFiles, Outcome, Streams}
use Rattle.room_run.specs.OneAnswer.{AreRead, HasJudged, IsMemory, NoneFailed}
use Rattle.room_run.specs.Verified.{TellsAgain, TellsWhether}
use Rattle.room_run.specs.declared.refusal.Refusal.{Refusal}
use Rattle.room_run.specs.declared.status.Status.{Status}
use Rattle.room_run.specs.declared.status.Status.TheVariants as statuses

-- the journals of three texts have a snapshot at a stamp by the charts of the model, over the lines of the injections
abbrev pub HasSnapshot : (shelf : Shown) (files : Judged) → HasJudged shelf files → ℕ → Type 0
HasSnapshot shelf files it at =
    (snapshot : Snapshot)
    × IsShown (behaviour_by_charts it.run.wiring it.run.model.sound.charts) it.run.wiring (items_of it.run.wiring it.run.lines) it.read at charts_observer snapshot

-- over every call that asks for the system at a stamp, whose texts are told and accepted, and in which no read of a named file and no write failed
abbrev pub ShowsAreExact : Type 0
ShowsAreExact =
    (before after : Shown) (words : List (List ℕ)) (files : Judged) (at : ℕ) (streams : Streams) (status : Status)
    → asked_by words ≡ Some (Show files at) → (it : HasJudged before files) → AreRead before after (Some (Show files at))
    → NoneFailed streams → Outcome before after words streams status → TellsWhether (HasSnapshot before files it at) status

-- Of what `run` printed over lines that don't move virtual time on, in at most as many bytes as are read, each stamp has
-- its answer, the text of a snapshot; and where no read fails, a call that asks for it is refused for want of memory alone.
abbrev pub PrintedRunsAreShown : Type 0
PrintedRunsAreShown =
    (ran : Shown) (run : Files) (fuel : ℕ) (plant : Plant) (lines : List Line) (journals : Journals) → IsTimedRunOfFiles ran run fuel plant lines journals
    → AreUntimed lines → length (tied_text_of plant.wiring journals) ≤ most_journal_bytes
    → (before after : Shown) (words : List (List ℕ)) (files : Judged) (at : ℕ) → asked_by words ≡ Some (Show files at)
    → TellsAgain ran run before files (tied_text_of plant.wiring journals)
    → ((snapshot : Snapshot) × IsSeen before files at plant lines journals snapshot × Answers before words (snapshot_text plant.wiring snapshot) statuses.Done)
    × (AreRead before after (Some (Show files at)) → (why : Refusal) → Causes before after words why → IsMemory why)
