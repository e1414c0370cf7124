-- Which texts run, and why a call is refused.
-- The causes stand in the order in which things are looked at, and each is a fact: that the words
-- ask for nothing; that the count of read faults of a named file rose; that a text is too long;
-- what its tokens or its tree lack; that a line of the injections is faulty; that no journals have a
-- text, or untied ones. Want of memory may come wherever the words ask for something.
use Rattle.std.specs.Prelude.{◌≡◌, ℕ, ◌<◌, ◌≤◌, ◌==◌, true, if◌then◌else◌, List, ◌∷◌, [], length, Option, Some, None, IfSome, Ok, Err, codes, decimal}
use Rattle.room_outside.specs.Faults.{Rose}
use Rattle.room_outside.specs.Shown.{Shown}
use Rattle.room_outside.specs.line_text.Lines.{line}
use Rattle.room_kinds.specs.declared.numbers.ControllerId.{ControllerId}
use Rattle.room_kinds.specs.declared.numbers.Stamp.{Stamp}
use Rattle.room_inherit.specs.BaseRules.{number_of as number_of_base}
use Rattle.structure_check.specs.List.{rule_of}
use Rattle.binding_expand.specs.Faults.{number as number_of_wiring}
use Rattle.chart_reader.specs.Faults.{number as number_of_chart}
use Rattle.room_wiring.specs.declared.tables.Tables.{Tables}
use Rattle.controller_actors.specs.declared.plant.Plant.{Plant}
use Rattle.inject_reader.specs.Fitting.{FitLines, LinesFit}
use Rattle.inject_reader.specs.declared.inject_lines.accepted.Advances.{Advances}
use Rattle.inject_reader.specs.declared.inject_lines.accepted.Advances.TheVariants.{Taken, Refused}
use Rattle.inject_reader.specs.declared.inject_lines.accepted.Line.{Line}
use Rattle.inject_reader.specs.Answer.{answer}
use Rattle.inject_reader.specs.LineFaults.{code_of}
use Rattle.inject_reader.specs.declared.line_fault.LineFault.{LineFault}
use Rattle.inject_reader.specs.declared.fault.InjectFault.{InjectFault}
use Rattle.inject_reader.specs.declared.fault.InjectFault.TheVariants as inject_faults
use Rattle.journal_reader.specs.declared.fault.ReadFaultOf.{ReadFaultOf}
use Rattle.journal_reader.specs.declared.fault.ReadFaultOf.TheVariants as journal_faults
use Rattle.room_run.specs.Words.{Files, Record, Judged, Check, Tree, Run, Convert, Verify, Show, Made, asked_by}
use Rattle.room_run.specs.MadeShelf.{made_files, made_shelf}
use Rattle.room_run.specs.Models.{IsModel, IsSound, IsSoundText, SoundCauses, most_bytes}
use Rattle.journal.specs.Fits.{Fits}
use Rattle.journal.specs.declared.entry.Journals.{Journals}
use Rattle.chart_model.specs.Chart.{Chart}
use Rattle.controller_actors.specs.Plants.{model_of}
use Rattle.actor_merge.specs.World.{IsQuiet}
use Rattle.model_run.specs.part_posts.Items.{items_of}
use Rattle.law_charts.specs.Charts.{behaviour_by_charts}
use Rattle.model_run.specs.run_ends.Runs.{IsRun}
use Rattle.room_show.specs.declared.snapshot.Snapshot.{Snapshot}
use Rattle.room_verify.specs.Verdicts.{IsVerdict}
use Rattle.room_verify.specs.Shown.{IsShown, IsUnshown}
use Rattle.room_verify.specs.Showing.{actors_observer, charts_observer}
use Rattle.room_verify.specs.declared.verdict.Verdict.{Verdict}
use Rattle.room_verify.specs.declared.verdict.Verdict.TheVariants as verdicts
use Rattle.room_run.specs.Conversions.{most_journal_bytes, HasJournals, HasNoJournals, HasUntiedJournals}
use Rattle.room_run.specs.Agreement.{AllAgree}
use Rattle.room_run.specs.ShownPeers.{ArePeersMutual}
use Rattle.room_run.specs.fitting_plants.Plants.{PlantFits}
use Rattle.room_run.specs.fitting_plants.Runs.{running}
use Rattle.room_run.specs.declared.model_fault.ModelFault.{ModelFault}
use Rattle.room_run.specs.declared.model_fault.ModelFault.TheVariants as faults
use Rattle.room_run.specs.declared.refusal.Refusal.{Refusal}
use Rattle.room_run.specs.declared.refusal.Refusal.TheVariants as refusals
use Rattle.room_run.specs.declared.status.Status.{Status}
use Rattle.room_run.specs.declared.status.Status.TheVariants as statuses

-- the text is that of injections, which may move virtual time on where such lines are taken, and these are its lines over the names of this wiring, which name what it has
pub record IsInjections (advances : Advances) (wiring : Tables) (text : List ℕ) (lines : List Line) : Type 0 where
  pub short : length text ≤ most_bytes
  pub accepted : answer advances wiring text ≡ Ok lines
  pub fit : FitLines wiring lines

-- over the names of this wiring, the line of this number is the first faulty one of the text, and this is its first fault
pub record HasBadLine (advances : Advances) (wiring : Tables) (text : List ℕ) (number : ℕ) (fault : LineFault) : Type 0 where
  pub short : length text ≤ most_bytes
  pub faulty : answer advances wiring text ≡ Err (number, code_of fault)

-- where the shelf tells the text under a name, it is so
abbrev pub TextIs : Shown → List ℕ → (List ℕ → Type 0) → Type 0
TextIs shelf name P = IfSome (shelf.text name) P

-- the texts of two files are those of a model which runs as this plant, and of injections with these lines
pub record AreOf (shelf : Shown) (files : Files) (plant : Plant) (lines : List Line) : Type 0 where
  pub model_accepted : TextIs shelf files.model (λ text. IsModel text plant)
  pub lines_accepted : TextIs shelf files.injections (λ text. IsInjections Taken plant.wiring text lines)

-- the texts of two files are those of a model which runs as this plant, and of injections with these lines, none of which moves virtual time on
pub record HasRunTexts (shelf : Shown) (files : Files) (plant : Plant) (lines : List Line) : Type 0 where
  pub model_accepted : TextIs shelf files.model (λ text. IsModel text plant)
  pub lines_accepted : TextIs shelf files.injections (λ text. IsInjections Refused plant.wiring text lines)

-- the verdict is that on the journals by the charts of the model whose text the shelf tells
abbrev pub IsVerdictByCharts : Shown → List ℕ → Plant → List Line → ℕ → Journals → Verdict → Type 0
IsVerdictByCharts shelf model plant lines fuel j verdict =
    TextIs shelf model (λ text. (charts : List (Option Chart)) × IsSoundText text plant.wiring charts
    × IsVerdict (behaviour_by_charts plant.wiring charts) plant.wiring (items_of plant.wiring lines) fuel j verdict)

-- Three texts are those of a model which runs as this plant, of injections with these lines, and of these journals; and
-- this is the verdict on the journals (`IsVerdict`: that they are lawful, prompt and ended for the lines and the fuel,
-- or the first of their faults). Whatever the shelf tells, the plant is that of some model that keeps all rules and has
-- no fault, and lines and journals name what its wiring has. It is the verdict by the charts of the plant's model, and
-- of the model whose text the shelf tells, whatever tables were compiled of them.
pub record IsJudged (shelf : Shown) (files : Judged) (fuel : ℕ) (plant : Plant) (lines : List Line) (journals : Journals) (verdict : Verdict) : Type 0 where
  pub texts : HasRunTexts shelf files.run plant lines
  pub journals_read : TextIs shelf files.journals (λ text. HasJournals plant.wiring text journals)
  pub plant_fits : PlantFits plant
  pub lines_fit : LinesFit plant.wiring lines
  pub fits : Fits plant.wiring journals
  pub verdict_is : IsVerdict (model_of plant) plant.wiring (items_of plant.wiring lines) fuel journals verdict
  pub by_own_charts : IsVerdict (behaviour_by_charts plant.wiring plant_fits.charts) plant.wiring (items_of plant.wiring lines) fuel journals verdict
  pub by_charts : IsVerdictByCharts shelf files.run.model plant lines fuel journals verdict

-- Three texts are those of a model which runs as this plant, of injections with these lines, and of these journals.
-- Whatever the shelf tells, the plant is that of some model that keeps all rules and has no fault, and lines and journals
-- name what its wiring has.
pub record AreGiven (shelf : Shown) (files : Judged) (plant : Plant) (lines : List Line) (journals : Journals) : Type 0 where
  pub texts : HasRunTexts shelf files.run plant lines
  pub journals_read : TextIs shelf files.journals (λ text. HasJournals plant.wiring text journals)
  pub plant_fits : PlantFits plant
  pub lines_fit : LinesFit plant.wiring lines
  pub fits : Fits plant.wiring journals

-- the snapshot at a stamp is that of the charts of the model whose text the shelf tells
abbrev pub IsShownByCharts : Shown → List ℕ → Plant → List Line → Journals → ℕ → Snapshot → Type 0
IsShownByCharts shelf model plant lines j at snapshot =
    TextIs shelf model (λ text. (charts : List (Option Chart)) × IsSoundText text plant.wiring charts
    × IsShown (behaviour_by_charts plant.wiring charts) plant.wiring (items_of plant.wiring lines) j at charts_observer snapshot)

-- Of a model, injections and journals that three texts give, this is the snapshot of the system after all that happened
-- by the journals up to a stamp (`IsShown`). It is that by the charts of the plant's model, and of the model whose text
-- the shelf tells, whatever tables were compiled of them. Where no message waits in the world that is shown, all
-- controllers agree in it: on who lives, on imports, links by name and peers. So they do at the end of a run that is done:
-- where the journals are those of one, and nothing is stamped later. And where they agree, the peers that are shown are
-- each other's (`ArePeersMutual`).
pub record IsSeen (shelf : Shown) (files : Judged) (at : ℕ) (plant : Plant) (lines : List Line) (journals : Journals) (snapshot : Snapshot) : Type 0 where
  pub given : AreGiven shelf files plant lines journals
  pub shown_is : IsShown (model_of plant) plant.wiring (items_of plant.wiring lines) journals at actors_observer snapshot
  pub by_own_charts : IsShown (behaviour_by_charts plant.wiring given.plant_fits.charts) plant.wiring (items_of plant.wiring lines) journals at charts_observer snapshot
  pub by_charts : IsShownByCharts shelf files.run.model plant lines journals at snapshot
  pub agreed : IsQuiet (running plant lines) shown_is.w → AllAgree plant.wiring shown_is.w
  pub agreed_at_end : (fuel : ℕ) → IsRun plant lines fuel journals → journals.done ≡ true → shown_is.behind ≡ [] → AllAgree plant.wiring shown_is.w
  pub each_others : AllAgree plant.wiring shown_is.w → ArePeersMutual plant.wiring shown_is.w snapshot

-- the verdict that is told in place of a snapshot is that of the charts of the model whose text the shelf tells
abbrev pub IsUnshownByCharts : Shown → List ℕ → Plant → List Line → Journals → ℕ → Verdict → Type 0
IsUnshownByCharts shelf model plant lines j at verdict =
    TextIs shelf model (λ text. (charts : List (Option Chart)) × IsSoundText text plant.wiring charts
    × IsUnshown (behaviour_by_charts plant.wiring charts) plant.wiring (items_of plant.wiring lines) j at verdict)

-- of a model, injections and journals that three texts give, nothing is shown at this stamp, for this verdict: that of
-- stamps that don't rise or of a wrong start in the whole journals, or of an entry up to the stamp that can't happen
pub record IsUnseen (shelf : Shown) (files : Judged) (at : ℕ) (plant : Plant) (lines : List Line) (journals : Journals) (verdict : Verdict) : Type 0 where
  pub given : AreGiven shelf files plant lines journals
  pub unshown : IsUnshown (model_of plant) plant.wiring (items_of plant.wiring lines) journals at verdict
  pub by_own_charts : IsUnshown (behaviour_by_charts plant.wiring given.plant_fits.charts) plant.wiring (items_of plant.wiring lines) journals at verdict
  pub by_charts : IsUnshownByCharts shelf files.run.model plant lines journals at verdict

-- in a call, the count of read faults of a name rose
abbrev pub RoseAt : Shown → Shown → List ℕ → Type 0
RoseAt before after name = Rose (before.faults name) (after.faults name)

-- why there may be no text of a model, which is looked for under a name
pub data UnreadCauses (before after : Shown) (name : List ℕ) : Refusal → Type 0 where
  model_unread : RoseAt before after name → UnreadCauses before after name refusals.ReadFault
  model_long : TextIs before name (λ text. most_bytes < length text) → UnreadCauses before after name refusals.ModelTooLong
  model_no_memory : UnreadCauses before after name refusals.Memory

-- why a model may be refused, whose text is looked for under a name
pub data ModelCauses (before after : Shown) (name : List ℕ) : Refusal → Type 0 where
  no_text : {why : Refusal} → UnreadCauses before after name why → ModelCauses before after name why
  model_refused : (fault : ModelFault) → TextIs before name (λ text. SoundCauses text fault) → ModelCauses before after name (refusals.Model fault)

-- why injections are refused whose lines have this fault
abbrev pub refusal_of_lines : InjectFault → Refusal
refusal_of_lines (inject_faults.Code number fault) = refusals.InjectionsLine number fault
refusal_of_lines inject_faults.Memory = refusals.Memory

-- why a text of injections may be refused
pub data LinesCauses (advances : Advances) (wiring : Tables) (text : List ℕ) : Refusal → Type 0 where
  faulty_line : (number : ℕ) (fault : LineFault) → HasBadLine advances wiring text number fault → LinesCauses advances wiring text (refusals.InjectionsLine number fault)
  no_memory_for_lines : LinesCauses advances wiring text refusals.Memory

-- why the injections may be refused, whose text is looked for under a name
pub data InjectionsCauses (before after : Shown) (name : List ℕ) (advances : Advances) (wiring : Tables) (why : Refusal) : Type 0 where
  injections_unread : RoseAt before after name → why ≡ refusals.ReadFault → InjectionsCauses before after name advances wiring why
  injections_long : TextIs before name (λ text. most_bytes < length text) → why ≡ refusals.InjectionsTooLong → InjectionsCauses before after name advances wiring why
  bad_line : (number : ℕ) (fault : LineFault) → TextIs before name (λ text. HasBadLine advances wiring text number fault) → why ≡ refusals.InjectionsLine number fault → InjectionsCauses before after name advances wiring why
  injections_no_memory : why ≡ refusals.Memory → InjectionsCauses before after name advances wiring why

-- Why the run of two files may be refused. The order is: reading the model, the model, reading the
-- injections, the injections, the run.
pub data RunCauses (before after : Shown) (files : Files) (why : Refusal) : Type 0 where
  of_model : ModelCauses before after files.model why → RunCauses before after files why
  of_injections : (plant : Plant) → TextIs before files.model (λ text. IsModel text plant) → InjectionsCauses before after files.injections Taken plant.wiring why → RunCauses before after files why
  run_no_memory : why ≡ refusals.Memory → RunCauses before after files why

-- why journals are refused whose text can't be read
abbrev pub refusal_of_journals : ReadFaultOf → Refusal
refusal_of_journals (journal_faults.Malformed offset) = refusals.JournalsMalformed offset
refusal_of_journals journal_faults.Memory = refusals.Memory

-- why no journals may be read from a text, over the names of a wiring
pub data ReadingCauses (wiring : Tables) (text : List ℕ) : Refusal → Type 0 where
  malformed : (offset : ℕ) → HasNoJournals wiring text → ReadingCauses wiring text (refusals.JournalsMalformed offset)
  no_memory_for_journals : ReadingCauses wiring text refusals.Memory

-- why a text of journals that are to be written in form 2 may be refused
pub data RecordedCauses (wiring : Tables) (text : List ℕ) : Refusal → Type 0 where
  unread_journals : {why : Refusal} → ReadingCauses wiring text why → RecordedCauses wiring text why
  untied : (controller : ControllerId) (stamp : Stamp) → HasUntiedJournals wiring text controller stamp → RecordedCauses wiring text (refusals.JournalsUntied controller stamp)
  no_memory_to_tie : RecordedCauses wiring text refusals.Memory

-- why there may be no text of journals, which is looked for under a name
pub data UnreadRecord (before after : Shown) (name : List ℕ) (why : Refusal) : Type 0 where
  record_unread : RoseAt before after name → why ≡ refusals.ReadFault → UnreadRecord before after name why
  record_long : TextIs before name (λ text. most_journal_bytes < length text) → why ≡ refusals.JournalsTooLong → UnreadRecord before after name why
  record_no_memory : why ≡ refusals.Memory → UnreadRecord before after name why

-- why no journals may be read whose text is looked for under a name
pub data JournalsCauses (before after : Shown) (name : List ℕ) (wiring : Tables) (why : Refusal) : Type 0 where
  no_record : UnreadRecord before after name why → JournalsCauses before after name wiring why
  journals_malformed : (offset : ℕ) → TextIs before name (λ text. HasNoJournals wiring text) → why ≡ refusals.JournalsMalformed offset → JournalsCauses before after name wiring why
  journals_no_memory : why ≡ refusals.Memory → JournalsCauses before after name wiring why

-- why journals that are to be written in form 2 may be refused, whose text is looked for under a name
pub data TiedCauses (before after : Shown) (name : List ℕ) (wiring : Tables) (why : Refusal) : Type 0 where
  journals_refused : JournalsCauses before after name wiring why → TiedCauses before after name wiring why
  journals_untied : (controller : ControllerId) (stamp : Stamp) → TextIs before name (λ text. HasUntiedJournals wiring text controller stamp) → why ≡ refusals.JournalsUntied controller stamp → TiedCauses before after name wiring why

-- Why journals of a model may not be written in form 2. The order is: reading the model, the model, reading the
-- journals, the journals.
pub data ConvertCauses (before after : Shown) (files : Record) (why : Refusal) : Type 0 where
  of_its_model : ModelCauses before after files.model why → ConvertCauses before after files why
  of_journals : (wiring : Tables) → TextIs before files.model (λ text. IsSound text wiring) → TiedCauses before after files.journals wiring why → ConvertCauses before after files why

-- Why there may be nothing to give a verdict on, and nothing to show. The order is: reading the model, the model,
-- reading the injections, the injections, none of which may move virtual time on, reading the journals, the journals.
pub data UnjudgedCauses (before after : Shown) (files : Judged) (why : Refusal) : Type 0 where
  judged_model : ModelCauses before after files.run.model why → UnjudgedCauses before after files why
  judged_injections : (plant : Plant) → TextIs before files.run.model (λ text. IsModel text plant)
      → InjectionsCauses before after files.run.injections Refused plant.wiring why → UnjudgedCauses before after files why
  judged_journals : (plant : Plant) (lines : List Line) → HasRunTexts before files.run plant lines
      → JournalsCauses before after files.journals plant.wiring why → UnjudgedCauses before after files why

-- why a call that asks for a verdict may be refused: there is nothing to give one on, or it isn't that the journals are
-- lawful
pub data VerifyCauses (before after : Shown) (files : Judged) (fuel : ℕ) (why : Refusal) : Type 0 where
  unjudged : UnjudgedCauses before after files why → VerifyCauses before after files fuel why
  unlawful : (plant : Plant) (lines : List Line) (journals : Journals) (verdict : Verdict)
      → IsJudged before files fuel plant lines journals verdict → (verdict ≡ verdicts.Lawful → ⊥)
      → why ≡ refusals.Unlawful verdict (length plant.wiring.controllers)
      → VerifyCauses before after files fuel why
  verify_no_memory : why ≡ refusals.Memory → VerifyCauses before after files fuel why

-- why a call that asks for the system at a stamp may be refused: there is nothing to show it of, or nothing is shown then
pub data ShowCauses (before after : Shown) (files : Judged) (at : ℕ) (why : Refusal) : Type 0 where
  nothing_to_show : UnjudgedCauses before after files why → ShowCauses before after files at why
  unlawful_by_then : (plant : Plant) (lines : List Line) (journals : Journals) (verdict : Verdict)
      → IsUnseen before files at plant lines journals verdict → why ≡ refusals.Unlawful verdict (length plant.wiring.controllers)
      → ShowCauses before after files at why
  show_no_memory : why ≡ refusals.Memory → ShowCauses before after files at why

-- why a text that stands in memory may be refused as that of a model which runs
pub data PlantCauses (text : List ℕ) : Refusal → Type 0 where
  long_model : most_bytes < length text → PlantCauses text refusals.ModelTooLong
  unfit_model : (fault : ModelFault) → SoundCauses text fault → PlantCauses text (refusals.Model fault)

-- why a text that stands in memory may be refused as that of injections
pub data InjectedCauses (wiring : Tables) (text : List ℕ) (why : Refusal) : Type 0 where
  long_injections : most_bytes < length text → why ≡ refusals.InjectionsTooLong → InjectedCauses wiring text why
  unfit_lines : LinesCauses Taken wiring text why → InjectedCauses wiring text why

-- why a call may be refused: for its words, or by what they ask for; a made model is refused as if its texts stood on a shelf
pub data Causes (before after : Shown) (words : List (List ℕ)) (why : Refusal) : Type 0 where
  no_such_words : asked_by words ≡ None → why ≡ refusals.Words → Causes before after words why
  of_check : (name : List ℕ) → asked_by words ≡ Some (Check name) → ModelCauses before after name why → Causes before after words why
  of_tree : (name : List ℕ) → asked_by words ≡ Some (Tree name) → ModelCauses before after name why → Causes before after words why
  of_run : (files : Files) (fuel : ℕ) → asked_by words ≡ Some (Run files fuel) → RunCauses before after files why → Causes before after words why
  of_convert : (files : Record) → asked_by words ≡ Some (Convert files) → ConvertCauses before after files why → Causes before after words why
  of_verify : (files : Judged) (fuel : ℕ) → asked_by words ≡ Some (Verify files fuel) → VerifyCauses before after files fuel why → Causes before after words why
  of_show : (files : Judged) (at : ℕ) → asked_by words ≡ Some (Show files at) → ShowCauses before after files at why → Causes before after words why
  of_made : (actors : ℕ) → asked_by words ≡ Some (Made actors) → RunCauses (made_shelf actors) (made_shelf actors) made_files why → Causes before after words why

-- the status of a refusal of a model's text
abbrev pub status_of_fault : ModelFault → Status
status_of_fault (faults.Byte offset) = statuses.ModelRefused
status_of_fault (faults.Syntax number) = statuses.ModelRefused
status_of_fault (faults.Bases rule) = statuses.ModelRefused
status_of_fault (faults.Rule rule) = statuses.ModelRefused
status_of_fault (faults.Wiring fault) = statuses.ModelRefused
status_of_fault (faults.Chart class fault) = statuses.ModelRefused
status_of_fault faults.Memory = statuses.Memory

-- the status of a refusal
abbrev pub status_of : Refusal → Status
status_of refusals.Words = statuses.WordsRefused
status_of refusals.ModelTooLong = statuses.ModelRefused
status_of (refusals.Model fault) = status_of_fault fault
status_of refusals.InjectionsTooLong = statuses.InjectionsRefused
status_of (refusals.InjectionsLine number fault) = statuses.InjectionsRefused
status_of refusals.JournalsTooLong = statuses.JournalsRefused
status_of (refusals.JournalsMalformed offset) = statuses.JournalsRefused
status_of (refusals.JournalsUntied controller stamp) = statuses.JournalsRefused
status_of (refusals.Unlawful verdict controllers) = statuses.Unlawful
status_of refusals.ReadFault = statuses.ReadFault
status_of refusals.Memory = statuses.Memory

-- what is told of a refusal of a model's text
abbrev pub note_of_fault : ModelFault → List ℕ
note_of_fault (faults.Byte offset) = line (codes "room: model refused: byte " ∷ decimal offset ∷ [])
note_of_fault (faults.Syntax number) = line (codes "room: model refused: syntax " ∷ decimal number ∷ [])
note_of_fault (faults.Bases rule) = line (codes "room: model refused: rule " ∷ decimal (number_of_base rule) ∷ [])
note_of_fault (faults.Rule rule) = line (codes "room: model refused: rule " ∷ decimal (rule_of rule).number ∷ [])
note_of_fault (faults.Wiring fault) = line (codes "room: model refused: wiring " ∷ decimal (number_of_wiring fault) ∷ [])
note_of_fault (faults.Chart class fault) = line (codes "room: model refused: chart " ∷ class ∷ codes " " ∷ decimal (number_of_chart fault) ∷ [])
note_of_fault faults.Memory = line (codes "room: memory" ∷ [])

-- what a party is called, where there are so many controllers
abbrev pub party_called : ℕ → ℕ → List ℕ
party_called controllers party = if party == controllers then codes "env" else decimal party

-- what is told of a verdict on the journals of so many controllers
abbrev pub verdict_line : ℕ → Verdict → List ℕ
verdict_line controllers (verdicts.Order party) = line (codes "room: unlawful: order " ∷ party_called controllers party.0 ∷ [])
verdict_line controllers (verdicts.Start c) = line (codes "room: unlawful: start " ∷ decimal c.0 ∷ [])
verdict_line controllers (verdicts.Entry party stamp) =
    line (codes "room: unlawful: entry " ∷ party_called controllers party.0 ∷ codes " " ∷ decimal stamp.0 ∷ [])
verdict_line controllers verdicts.Left = line (codes "room: unlawful: left" ∷ [])
verdict_line controllers (verdicts.Fuel c) = line (codes "room: unlawful: fuel " ∷ decimal c.0 ∷ [])
verdict_line controllers verdicts.Ended = line (codes "room: unlawful: ended" ∷ [])
verdict_line controllers (verdicts.Prompt c stamp) = line (codes "room: unlawful: prompt " ∷ decimal c.0 ∷ codes " " ∷ decimal stamp.0 ∷ [])
verdict_line controllers verdicts.Lawful = line (codes "lawful" ∷ [])

-- what is told of a refusal: one line, names as they stand and numbers in decimal digits
abbrev pub note_of : Refusal → List ℕ
note_of refusals.Words = line (codes "room: words refused" ∷ [])
note_of refusals.ModelTooLong = line (codes "room: model refused: too long" ∷ [])
note_of (refusals.Model fault) = note_of_fault fault
note_of refusals.InjectionsTooLong = line (codes "room: injections refused: too long" ∷ [])
note_of (refusals.InjectionsLine number fault) = line (codes "room: injections refused: line " ∷ decimal number ∷ codes " " ∷ decimal (code_of fault) ∷ [])
note_of refusals.JournalsTooLong = line (codes "room: journals refused: too long" ∷ [])
note_of (refusals.JournalsMalformed offset) = line (codes "room: journals refused: malformed " ∷ decimal offset ∷ [])
note_of (refusals.JournalsUntied controller stamp) =
    line (codes "room: journals refused: untied " ∷ decimal controller.0 ∷ codes " " ∷ decimal stamp.0 ∷ [])
note_of (refusals.Unlawful verdict controllers) = verdict_line controllers verdict
note_of refusals.ReadFault = line (codes "room: read fault" ∷ [])
note_of refusals.Memory = line (codes "room: memory" ∷ [])
