-- How the parts of a call make its outcome.
use Rattle.std.proofs.Common.{◌≡◌, ℕ, List, Option, Some, None, IfSome, sym, ap, subst}
use Rattle.room_outside.specs.Shown.{Shown}
use Rattle.room_outside.specs.Written.{Written}
use Rattle.room_outside.proofs.SinkLemmas.{Appends-none}
use Rattle.journal.specs.Fits.{Fits}
use Rattle.journal.specs.declared.entry.Journals.{Journals}
use Rattle.tied_journals.specs.Tied.{Tied}
use Rattle.tied_journals.specs.Text.{tied_text_of}
use Rattle.journal_reader.specs.journal_texts.InRange.{IsInRange}
use Rattle.journal_reader.proofs.journal_texts.FormsApart.{tied_texts_differ}
use Rattle.inject_reader.specs.Fitting.{LinesFit}
use Rattle.inject_reader.specs.declared.inject_lines.accepted.Line.{Line}
use Rattle.controller_actors.specs.declared.plant.Plant.{Plant}
use Rattle.chart_model.specs.Chart.{Chart}
use Rattle.model_run.specs.run_ends.Runs.{IsRun}
use Rattle.timed_runs.specs.Timed.{IsTimedRun}
use Rattle.law_charts.specs.Charts.{IsRunByCharts}
use Rattle.law_charts.proofs.ByCharts.{by_charts}
use Rattle.law_runs.proofs.run_journals.InPlaceLaw.{in_place}
use Rattle.law_runs.proofs.run_journals.TiedLaw.{tied}
use Rattle.law_runs.proofs.PromisesLaw.{promises}
use Rattle.law_runs.proofs.run_texts.TextsLaw.{fetches_fit}
use Rattle.made_model.specs.Summaries.{summary_text}
use Rattle.made_model.specs.declared.summary.Summary.{Summary}
use Rattle.room_run.specs.Words.{Files, Made, asked_by, usual_fuel}
use Rattle.room_run.specs.MadeShelf.{made_files, made_shelf}
use Rattle.room_run.specs.Models.{IsModel, IsSoundText}
use Rattle.room_run.specs.Causes.{AreOf, Causes, TextIs}
use Rattle.room_run.specs.fitting_journals.Fitting.{FittingRunsAreInPlace}
use Rattle.room_run.specs.fitting_plants.Plants.{PlantFits}
use Rattle.room_run.specs.Finished.{HasRun, Finishes, Summarizes}
use Rattle.room_run.specs.Outcome.{Answers, says_made, IsRunOfFiles, IsTimedRunOfFiles, TextTellsTimed, status_of_run, Outcome, Prints, written, cut, Tells, told, broken, whole, cut_short, refused, refused_unheard}
use Rattle.room_run.specs.declared.prepare.Recorded.{Recorded}
use Rattle.room_run.specs.declared.refusal.Refusal.{Refusal}
use Rattle.room_run.specs.declared.status.Status.{Status}
use Rattle.room_run.proofs.fitting_journals.FitsLaw.{journals_fit}
use Rattle.room_run.proofs.fitting_plants.Runs.{runs_settle}
use Rattle.room_run.proofs.settled.Runs.{runs_agree}
use Rattle.room_run.proofs.settled.Told.{plant_consistent, plant_named, text_tells}
use Rattle.room_run.proofs.Retold.{fit_as_told, tied_as_told}

-- the text of a run's journals
pub text_is : (p : Plant) (lines : List Line) (fuel : ℕ) (f : Recorded) → Finishes p lines fuel f → tied_text_of f.wiring f.journals ≡ tied_text_of p.wiring f.journals
text_is p lines fuel f h = ap (λ w. tied_text_of w f.journals) h.wiring

-- a run of a plant is one of its model's charts
by_model : (o : Option (List ℕ)) (p : Plant) (lines : List Line) (fuel : ℕ) (j : Journals) → IfSome o (λ text. IsModel text p) → IsRun p lines fuel j
    → IfSome o (λ text. (charts : List (Option Chart)) × IsSoundText text p.wiring charts × IsRunByCharts p.wiring charts lines fuel j)
by_model None p lines fuel j h run = tt
by_model (Some text) p lines fuel j h run = (h.charts, h.is, by_charts p h.charts lines fuel j h.tables run)

-- what a run of a plant that fits, over lines that fit, is of the texts that it comes from
over : FittingRunsAreInPlace → (shelf : Shown) (files : Files) (fuel : ℕ) (p : Plant) (lines : List Line) (j : Journals)
    → TextIs shelf files.model (λ text. IsModel text p) → PlantFits p → LinesFit p.wiring lines → IsRun p lines fuel j → IsRunOfFiles shelf files fuel p lines j
over law shelf files fuel p lines j model fits fit run = record {
  plant_fits = fits;
  lines_fit = fit;
  run = run;
  promises = promises p lines fuel j run;
  by_own_charts = by_charts p fits.charts lines fuel j fits.tables run;
  by_charts = by_model (shelf.text files.model) p lines fuel j model run;
  agreed = λ done. runs_agree p lines fuel j fits fit run done;
  fetches = fetches_fit p lines fit fuel j run;
  determined = text_tells p lines fuel j fits fit run;
  settled = runs_settle p lines fuel j fits fit run;
  wired = law p lines fuel j fits fit run;
  fits = journals_fit law p lines fuel j fits fit run;
  in_place = in_place p lines fuel j run;
  tied = tied p lines fuel j run;
}

-- journals of a timed run of a plant that fits are tied, and fit its wiring
pub timed_tied : (p : Plant) (lines : List Line) (fuel : ℕ) (j : Journals) → IsTimedRun p lines fuel j → Tied j
timed_tied p lines fuel j timed = tied_as_told j timed.unposted_of_it (tied p timed.expansion fuel _ timed.run)

timed_fits : FittingRunsAreInPlace → (p : Plant) (lines : List Line) (fuel : ℕ) (j : Journals) → PlantFits p → IsTimedRun p lines fuel j → Fits p.wiring j
timed_fits law p lines fuel j fits timed =
    fit_as_told p.wiring j timed.unposted_of_it (journals_fit law p timed.expansion fuel _ fits timed.fits timed.run)

-- so their text tells them
timed_told : FittingRunsAreInPlace → (p : Plant) (lines : List Line) (fuel : ℕ) (j : Journals) → PlantFits p → IsTimedRun p lines fuel j → IsInRange j → TextTellsTimed p lines j
timed_told law p lines fuel j fits timed range other_fuel other other_range other_timed same =
    tied_texts_differ p.wiring other j (plant_consistent p fits) (plant_named p fits)
    (timed_fits law p lines other_fuel other fits other_timed) other_range (timed_tied p lines other_fuel other other_timed)
    (timed_fits law p lines fuel j fits timed) range (timed_tied p lines fuel j timed) same

-- what is so of the journals of a run, over what the lines come to and over lines that don't move the time on
pub run_of : FittingRunsAreInPlace → (shelf : Shown) (files : Files) (fuel : ℕ) (p : Plant) (lines : List Line) (j : Journals)
    → AreOf shelf files p lines → HasRun p lines fuel j → IsTimedRunOfFiles shelf files fuel p lines j
run_of law shelf files fuel p lines j texts h = record {
  texts = texts;
  lines_fit = h.lines_fit;
  timed = h.timed;
  expanded = over law shelf files fuel p h.timed.expansion _ texts.model_accepted h.plant_fits h.timed.fits h.timed.run;
  none_due = h.none_due;
  fits = timed_fits law p lines fuel j h.plant_fits h.timed;
  tied = timed_tied p lines fuel j h.timed;
  in_range = h.in_range;
  determined = timed_told law p lines fuel j h.plant_fits h.timed h.in_range;
  untimed = λ still. over law shelf files fuel p lines j texts.model_accepted h.plant_fits h.lines_fit (h.untimed still);
}

-- what is told of a run of a made model
pub sum_answers : FittingRunsAreInPlace → (shelf : Shown) (words : List (List ℕ)) (actors : ℕ) (s : Summary) → asked_by words ≡ Some (Made actors) → Summarizes actors s → Answers shelf words (summary_text s) (status_of_run s.done)
sum_answers law shelf words actors s asked h =
    says_made actors h.plant h.lines h.journals asked (run_of law (made_shelf actors) made_files usual_fuel h.plant h.lines h.journals h.texts h.run)
    (ap summary_text h.is) (ap (λ (x : Summary). status_of_run x.done) h.is)

-- the answer was written
pub printed_outcome : (before after : Shown) (words : List (List ℕ)) (out_before out_after notes : Written) (text : List ℕ) (wanted status : Status) → Answers before words text wanted → Prints out_before out_after text wanted status
    → Outcome before after words (record { out_before = out_before; out_after = out_after; notes_before = notes; notes_after = notes }) status
printed_outcome before after words out_before out_after notes text wanted status answers (written is appended) = whole text (subst (Answers before words text) (sym is) answers) appended (Appends-none notes)
printed_outcome before after words out_before out_after notes text wanted status answers (cut is off) = cut_short text wanted answers is off (Appends-none notes)

-- the refusal was told
pub told_outcome : (before after : Shown) (words : List (List ℕ)) (out notes_before notes_after : Written) (why : Refusal) (status : Status) → Causes before after words why → Tells notes_before notes_after why status
    → Outcome before after words (record { out_before = out; out_after = out; notes_before = notes_before; notes_after = notes_after }) status
told_outcome before after words out notes_before notes_after why status cause (told is note) = refused why cause is (Appends-none out) note
told_outcome before after words out notes_before notes_after why status cause (broken is note) = refused_unheard why cause is (Appends-none out) note
