-- Which journals `verify` answers as lawful.
-- Where texts are told and accepted and no read and no write failed, a call ends for want of memory, or as done where the
-- journals are lawful, prompt and ended by the model's charts, over the lines and with the fuel, or as unlawful where they
-- aren't. And what `run` printed over lines that don't move virtual time on is lawful with the fuel of the run.
use Rattle.std.specs.Prelude.{◌≡◌, ℕ, ◌≤◌, List, length, Some}
use Rattle.room_outside.specs.Shown.{Shown}
use Rattle.inject_reader.specs.Fitting.{AreUntimed}
use Rattle.inject_reader.specs.declared.inject_lines.accepted.Line.{Line}
use Rattle.journal.specs.declared.entry.Journals.{Journals}
use Rattle.tied_journals.specs.Text.{tied_text_of}
use Rattle.controller_actors.specs.declared.plant.Plant.{Plant}
use Rattle.model_run.specs.part_posts.Items.{items_of}
use Rattle.law_charts.specs.Charts.{behaviour_by_charts}
use Rattle.room_verify.specs.Verdicts.{IsLawful}
use Rattle.room_run.specs.Words.{Files, Judged, Verify, asked_by}
use Rattle.room_run.specs.Conversions.{most_journal_bytes}
use Rattle.room_run.specs.Causes.{Causes}
use Rattle.room_run.specs.Outcome.{Answers, IsTimedRunOfFiles, Outcome, Streams, lawful_line}
use Rattle.room_run.specs.OneAnswer.{AreRead, HasJudged, IsMemory, NoneFailed}
use Rattle.room_run.specs.declared.refusal.Refusal.{Refusal}
use Rattle.room_run.specs.declared.status.Status.{Status}
use Rattle.room_run.specs.declared.status.Status.TheVariants as statuses

-- the journals of three texts are lawful, prompt and ended by the charts of the model, over the lines of the injections and with so much fuel
abbrev pub AreLawful : (shelf : Shown) (files : Judged) → HasJudged shelf files → ℕ → Type 0
AreLawful shelf files it fuel =
    IsLawful (behaviour_by_charts it.run.wiring it.run.model.sound.charts) it.run.wiring (items_of it.run.wiring it.run.lines) fuel it.read

-- how a call ends that asks whether something is so of journals
pub data TellsWhether (P : Type 0) (status : Status) : Type 0 where
  out_of_memory : status ≡ statuses.Memory → TellsWhether P status
  done_where : status ≡ statuses.Done → P → TellsWhether P status
  unlawful_where : status ≡ statuses.Unlawful → (P → ⊥) → TellsWhether P status

-- over every call that asks for a verdict, whose texts are told and accepted, and in which no read of a named file and no write failed
abbrev pub VerdictsAreExact : Type 0
VerdictsAreExact =
    (before after : Shown) (words : List (List ℕ)) (files : Judged) (fuel : ℕ) (streams : Streams) (status : Status)
    → asked_by words ≡ Some (Verify files fuel) → (it : HasJudged before files) → AreRead before after (Some (Verify files fuel))
    → NoneFailed streams → Outcome before after words streams status → TellsWhether (AreLawful before files it fuel) status

-- one shelf tells the texts of a model and of injections that another one tells, and this text of journals
pub record TellsAgain (ran : Shown) (run : Files) (shelf : Shown) (files : Judged) (printed : List ℕ) : Type 0 where
  pub model : List ℕ
  pub model_told : ran.text run.model ≡ Some model
  pub model_again : shelf.text files.run.model ≡ Some model
  pub injections : List ℕ
  pub injections_told : ran.text run.injections ≡ Some injections
  pub injections_again : shelf.text files.run.injections ≡ Some injections
  pub journals_told : shelf.text files.journals ≡ Some printed

-- Of what `run` printed over lines that don't move virtual time on, in at most as many bytes as are read, `lawful` is the
-- answer, with the same fuel; and where no read fails, a call that asks for the verdict is refused for want of memory alone.
abbrev pub PrintedRunsAreLawful : Type 0
PrintedRunsAreLawful =
    (ran : Shown) (run : Files) (fuel : ℕ) (plant : Plant) (lines : List Line) (journals : Journals) → IsTimedRunOfFiles ran run fuel plant lines journals
    → AreUntimed lines → length (tied_text_of plant.wiring journals) ≤ most_journal_bytes
    → (before after : Shown) (words : List (List ℕ)) (files : Judged) → asked_by words ≡ Some (Verify files fuel)
    → TellsAgain ran run before files (tied_text_of plant.wiring journals)
    → Answers before words lawful_line statuses.Done
    × (AreRead before after (Some (Verify files fuel)) → (why : Refusal) → Causes before after words why → IsMemory why)
