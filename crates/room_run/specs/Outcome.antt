-- How a call ends, and what it wrote.
-- A call ends in one of four ways: the whole answer is written, with its status; writing it breaks
-- off, with the status of a write fault; the call is refused for a cause that holds, with its one
-- line on standard error and nothing on standard output; or writing that line breaks off. Where a
-- shelf doesn't tell a text, nothing is said of that text; the words and the causes of faults are
-- spoken of over every shelf and sink.
-- The answer is `ok` of a model that keeps all rules and whose wiring and charts have no fault,
-- the text of its wiring, the text of journals that are a run of the model over what the lines come to,
-- which may move virtual time on, or the summary of such journals of a made model, with status done or
-- spent as the run ended; or the text of journals that a text of them has. The text of journals is that
-- of form 2, wherever one is written. Of journals that are lawful for a model and lines it is `lawful`; of a stamp
-- of journals it is the text of the snapshot of the system then.
use Rattle.std.specs.Prelude.{◌≡◌, ℕ, List, [], ◌∷◌, Bool, true, Option, Some, codes, if◌then◌else◌}
use Rattle.room_outside.specs.Shown.{Shown}
use Rattle.room_outside.specs.Written.{Written, Appends, BreaksOff}
use Rattle.room_outside.specs.line_text.Lines.{line}
use Rattle.journal.specs.Fits.{Fits}
use Rattle.journal.specs.declared.entry.Journals.{Journals}
use Rattle.inject_reader.specs.Fitting.{LinesFit, AreUntimed}
use Rattle.inject_reader.specs.declared.inject_lines.accepted.Line.{Line}
use Rattle.controller_actors.specs.declared.plant.Plant.{Plant}
use Rattle.model_run.specs.run_ends.Runs.{IsRun}
use Rattle.timed_runs.specs.Timed.{IsTimedRun, NoneIsDue}
use Rattle.chart_model.specs.Chart.{Chart}
use Rattle.law_charts.specs.Charts.{IsRunByCharts}
use Rattle.law_runs.specs.Promises.{RunPromises}
use Rattle.law_runs.specs.run_texts.Fetches.{FetchesFit}
use Rattle.law_runs.specs.run_texts.Texts.{TextTells}
use Rattle.room_run.specs.Agreement.{AllAgree}
use Rattle.room_wiring.specs.declared.tables.Tables.{Tables}
use Rattle.binding_expand.specs.tree_text.Text.{tree_text}
use Rattle.made_model.specs.Summaries.{summary_of, summary_text}
use Rattle.room_run.specs.Words.{Files, Record, Judged, Check, Tree, Run, Convert, Verify, Show, Made, asked_by, usual_fuel}
use Rattle.room_run.specs.MadeShelf.{made_files, made_shelf}
use Rattle.law_runs.specs.run_journals.InPlace.{AreInPlace}
use Rattle.tied_journals.specs.Tied.{Tied}
use Rattle.tied_journals.specs.Text.{tied_text_of}
use Rattle.journal_reader.specs.journal_texts.InRange.{IsInRange}
use Rattle.room_run.specs.Models.{IsSound, IsSoundText}
use Rattle.room_run.specs.Conversions.{HasTiedJournals}
use Rattle.room_run.specs.Causes.{Causes, AreOf, IsJudged, IsSeen, TextIs, status_of, note_of}
use Rattle.room_run.specs.fitting_journals.Fitting.{JournalsInPlace}
use Rattle.room_run.specs.fitting_plants.Plants.{PlantFits}
use Rattle.room_run.specs.fitting_plants.Runs.{Settles}
use Rattle.room_show.specs.Text.{snapshot_text}
use Rattle.room_show.specs.declared.snapshot.Snapshot.{Snapshot}
use Rattle.room_verify.specs.declared.verdict.Verdict.TheVariants as verdicts
use Rattle.room_run.specs.declared.prepare.Answer.{Answer}
use Rattle.room_run.specs.declared.prepare.Answer.TheVariants as answers
use Rattle.room_run.specs.declared.refusal.Refusal.{Refusal}
use Rattle.room_run.specs.declared.status.Status.{Status}
use Rattle.room_run.specs.declared.status.Status.TheVariants as statuses

-- the line that says that a model keeps all rules and that its wiring and charts have no fault
abbrev pub accepted : List ℕ
accepted = line (codes "ok" ∷ [])

-- the line that says that journals are lawful
abbrev pub lawful_line : List ℕ
lawful_line = line (codes "lawful" ∷ [])

-- the journals are those of a run of the model's charts, told by the names of their states
abbrev pub IsByCharts : Shown → Files → Plant → List Line → ℕ → Journals → Type 0
IsByCharts shelf files plant lines fuel j =
    TextIs shelf files.model (λ text. (charts : List (Option Chart)) × IsSoundText text plant.wiring charts × IsRunByCharts plant.wiring charts lines fuel j)

-- The journals, one for each controller and one for the environment, are those of a run of a plant over lines with so much fuel (`IsRun`: each controller's journal is the replay of its own fetches, run to completion; merged by stamp they are one run of the world; what is taken in each lane is a prefix of what was sent, and all of it where the run is done). Whatever the shelf tells, the plant is that of some model that keeps all rules and has no fault, and the lines name what its wiring has; so all below is said without a premise. What a reader may rely on is said sentence by sentence (`RunPromises`). The run is one of the charts of the plant's model, and of those of the model whose text the shelf tells (`IsByCharts`). Where it is done all controllers agree on who lives, on imports, links by name and peers (`AllAgree`); what it fetches fits (`FetchesFit`), and its text tells it (`TextTells`). What is so of every run of a plant that fits is so of it (`Settles`), and so is what is so of the journals of each: they are in place, the environment's fits the wiring, and what they tell of actors, places and signals is so of it (`JournalsInPlace`); so they fit the wiring (`Fits`). Each entry stands where it belongs (`AreInPlace`), and each fetch is that of the one post that it names (`Tied`).
pub record IsRunOfFiles (shelf : Shown) (files : Files) (fuel : ℕ) (plant : Plant) (lines : List Line) (journals : Journals) : Type 0 where
  pub plant_fits : PlantFits plant
  pub lines_fit : LinesFit plant.wiring lines
  pub run : IsRun plant lines fuel journals
  pub promises : RunPromises plant lines fuel journals
  pub by_own_charts : IsRunByCharts plant.wiring plant_fits.charts lines fuel journals
  pub by_charts : IsByCharts shelf files plant lines fuel journals
  pub agreed : journals.done ≡ true → AllAgree plant.wiring run.world
  pub fetches : FetchesFit plant journals
  pub determined : TextTells plant lines journals
  pub settled : Settles plant lines fuel journals run
  pub wired : JournalsInPlace plant.wiring journals
  pub fits : Fits plant.wiring journals
  pub in_place : AreInPlace plant.wiring journals
  pub tied : Tied journals

-- no other run of this plant over these lines, which may move the time on, has the text of these journals, whatever its fuel, where its numbers are in the ranges of their types
abbrev pub TextTellsTimed : Plant → List Line → Journals → Type 0
TextTellsTimed plant lines j =
    (fuel : ℕ) (other : Journals) → IsInRange other → IsTimedRun plant lines fuel other
    → tied_text_of plant.wiring other ≡ tied_text_of plant.wiring j → other ≡ j

-- Plant, lines and journals are those of a run of the model of one file over the injections of the other, with so much fuel: the texts are those of a model which runs as this plant, and of injections with these lines, which may move virtual time on; and the journals are those of one run over what the lines come to, with each timeout where it is due (`IsTimedRun`). All that is said of runs is said of it over what the lines come to (`IsRunOfFiles`); only what wasn't posted is told in the numbers of the lines that were given. Where it is done no armed timer is due (`NoneIsDue`). The journals fit the wiring (`Fits`), each fetch is that of the one post that it names (`Tied`), their numbers are in the ranges of their types (`IsInRange`), and their text tells them (`TextTellsTimed`). Where no line moves the time on, what they come to are the lines: all that is said of runs is said of these journals over the lines themselves.
pub record IsTimedRunOfFiles (shelf : Shown) (files : Files) (fuel : ℕ) (plant : Plant) (lines : List Line) (journals : Journals) : Type 0 where
  pub texts : AreOf shelf files plant lines
  pub lines_fit : LinesFit plant.wiring lines
  pub timed : IsTimedRun plant lines fuel journals
  pub expanded : IsRunOfFiles shelf files fuel plant timed.expansion (record journals { unposted = timed.unposted_of_it })
  pub none_due : journals.done ≡ true → NoneIsDue plant.wiring lines journals
  pub fits : Fits plant.wiring journals
  pub tied : Tied journals
  pub in_range : IsInRange journals
  pub determined : TextTellsTimed plant lines journals
  pub untimed : AreUntimed lines → IsRunOfFiles shelf files fuel plant lines journals

-- the texts of two files are those of a model without a fault, with this wiring, and, over its names, of these journals, which are tied
pub record AreRecorded (shelf : Shown) (files : Record) (wiring : Tables) (journals : Journals) : Type 0 where
  pub model_accepted : TextIs shelf files.model (λ text. IsSound text wiring)
  pub journals_accepted : TextIs shelf files.journals (λ text. HasTiedJournals wiring text journals)

-- how a run ended: done, or by its fuel
abbrev pub status_of_run : Bool → Status
status_of_run done = if done then statuses.Done else statuses.Spent

-- THE HEADLINE. What the words ask for, as a text with the status of a call that writes it whole: `ok` of a model that keeps all rules and whose wiring and charts have no fault; the slots and joined places of such a model; the text of the journals of a run of the model over the lines (`IsTimedRunOfFiles`); the text of the journals of which a text of journals is; `lawful` of journals that are lawful, prompt and ended for a model, injections and a fuel (`IsJudged`); the text of the snapshot of the system after all that happened by journals up to a stamp (`IsSeen`); or the summary of the journals of a run of the made model of so many actors over its injections, of which all is said that is said of the run of two files with these texts.
pub data Answers (shelf : Shown) (words : List (List ℕ)) (text : List ℕ) (status : Status) : Type 0 where
  says_ok : (name : List ℕ) → asked_by words ≡ Some (Check name) → TextIs shelf name (λ bytes. (wiring : Tables) × IsSound bytes wiring) → text ≡ accepted → status ≡ statuses.Done → Answers shelf words text status
  says_tree : (name : List ℕ) (wiring : Tables) → asked_by words ≡ Some (Tree name) → TextIs shelf name (λ bytes. IsSound bytes wiring) → text ≡ tree_text wiring → status ≡ statuses.Done → Answers shelf words text status
  says_run : (files : Files) (fuel : ℕ) (plant : Plant) (lines : List Line) (journals : Journals) → asked_by words ≡ Some (Run files fuel) → IsTimedRunOfFiles shelf files fuel plant lines journals
      → text ≡ tied_text_of plant.wiring journals → status ≡ status_of_run journals.done → Answers shelf words text status
  says_converted : (files : Record) (wiring : Tables) (journals : Journals) → asked_by words ≡ Some (Convert files) → AreRecorded shelf files wiring journals
      → text ≡ tied_text_of wiring journals → status ≡ statuses.Done → Answers shelf words text status
  says_lawful : (files : Judged) (fuel : ℕ) (plant : Plant) (lines : List Line) (journals : Journals) → asked_by words ≡ Some (Verify files fuel)
      → IsJudged shelf files fuel plant lines journals verdicts.Lawful → text ≡ lawful_line → status ≡ statuses.Done → Answers shelf words text status
  says_shown : (files : Judged) (at : ℕ) (plant : Plant) (lines : List Line) (journals : Journals) (snapshot : Snapshot) → asked_by words ≡ Some (Show files at)
      → IsSeen shelf files at plant lines journals snapshot → text ≡ snapshot_text plant.wiring snapshot → status ≡ statuses.Done → Answers shelf words text status
  says_made : (actors : ℕ) (plant : Plant) (lines : List Line) (journals : Journals) → asked_by words ≡ Some (Made actors) → IsTimedRunOfFiles (made_shelf actors) made_files usual_fuel plant lines journals
      → text ≡ summary_text (summary_of actors journals) → status ≡ status_of_run journals.done → Answers shelf words text status

-- the text of what the program has found out
abbrev pub answer_text : Answer → List ℕ
answer_text answers.Accepted = accepted
answer_text (answers.Wired wiring) = tree_text wiring
answer_text (answers.Ran run) = tied_text_of run.wiring run.journals
answer_text (answers.Converted read) = tied_text_of read.wiring read.journals
answer_text answers.Lawful = lawful_line
answer_text (answers.Shown view) = snapshot_text view.wiring view.snapshot
answer_text (answers.Summed summary) = summary_text summary

-- journals that are to be written are tied
abbrev pub HasTied : Answer → Type 0
HasTied answers.Accepted = Unit {0}
HasTied (answers.Wired wiring) = Unit {0}
HasTied (answers.Ran run) = Tied run.journals
HasTied (answers.Converted read) = Tied read.journals
HasTied answers.Lawful = Unit {0}
HasTied (answers.Shown view) = Unit {0}
HasTied (answers.Summed summary) = Unit {0}

-- the status where that text is written whole
abbrev pub answer_status : Answer → Status
answer_status answers.Accepted = statuses.Done
answer_status (answers.Wired wiring) = statuses.Done
answer_status (answers.Ran run) = status_of_run run.journals.done
answer_status (answers.Converted read) = statuses.Done
answer_status answers.Lawful = statuses.Done
answer_status (answers.Shown view) = statuses.Done
answer_status (answers.Summed summary) = status_of_run summary.done

-- a text was written, which has this status, or writing it broke off
pub data Prints (before after : Written) (text : List ℕ) (wanted status : Status) : Type 0 where
  written : status ≡ wanted → Appends before after text → Prints before after text wanted status
  cut : status ≡ statuses.WriteFault → BreaksOff before after text → Prints before after text wanted status

-- a refusal was told, or telling it broke off
pub data Tells (before after : Written) (why : Refusal) (status : Status) : Type 0 where
  told : status ≡ status_of why → Appends before after (note_of why) → Tells before after why status
  broken : status ≡ statuses.WriteFault → BreaksOff before after (note_of why) → Tells before after why status

-- what a call did to standard output, and to standard error
pub record Streams : Type 0 where
  pub out_before : Written
  pub out_after : Written
  pub notes_before : Written
  pub notes_after : Written

-- A call ends in one of four ways: the whole answer is written; writing it breaks off; it is
-- refused, for a cause that holds, with one line; or writing that line breaks off.
pub data Outcome (before after : Shown) (words : List (List ℕ)) (streams : Streams) (status : Status) : Type 0 where
  whole : (text : List ℕ) → Answers before words text status → Appends streams.out_before streams.out_after text → Appends streams.notes_before streams.notes_after [] → Outcome before after words streams status
  cut_short : (text : List ℕ) (wanted : Status) → Answers before words text wanted → status ≡ statuses.WriteFault → BreaksOff streams.out_before streams.out_after text → Appends streams.notes_before streams.notes_after [] → Outcome before after words streams status
  refused : (why : Refusal) → Causes before after words why → status ≡ status_of why → Appends streams.out_before streams.out_after [] → Appends streams.notes_before streams.notes_after (note_of why) → Outcome before after words streams status
  refused_unheard : (why : Refusal) → Causes before after words why → status ≡ statuses.WriteFault → Appends streams.out_before streams.out_after [] → BreaksOff streams.notes_before streams.notes_after (note_of why) → Outcome before after words streams status
