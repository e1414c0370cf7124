-- What a run printed is lawful.
use Rattle.std.proofs.Common.{◌≡◌, ℕ, ◌≤◌, List, length, Option, Some, IfSome, refl, sym, subst, inr}
use Rattle.room_outside.specs.Shown.{Shown}
use Rattle.room_wiring.specs.declared.tables.Tables.{Tables}
use Rattle.inject_reader.specs.Fitting.{AreUntimed}
use Rattle.inject_reader.specs.declared.inject_lines.accepted.Advances.TheVariants.{Taken, Refused}
use Rattle.inject_reader.specs.declared.inject_lines.accepted.Line.{Line}
use Rattle.journal.specs.declared.entry.Journals.{Journals}
use Rattle.tied_journals.specs.Text.{tied_text_of}
use Rattle.chart_model.specs.Chart.{Chart}
use Rattle.controller_actors.specs.Plants.{model_of}
use Rattle.controller_actors.specs.declared.plant.Plant.{Plant}
use Rattle.model_run.specs.part_posts.Items.{items_of}
use Rattle.model_run.specs.run_ends.Runs.{IsRun}
use Rattle.law_charts.specs.Charts.{behaviour_by_charts, IsRunByCharts}
use Rattle.room_verify.specs.Verdicts.{IsVerdict, lawful}
use Rattle.room_verify.specs.declared.verdict.Verdict.TheVariants as verdicts
use Rattle.room_run.specs.Words.{Files, Judged, Verify, asked_by}
use Rattle.room_run.specs.Models.{IsModel, IsSoundText}
use Rattle.room_run.specs.Conversions.{most_journal_bytes, HasJournals}
use Rattle.room_run.specs.Causes.{TextIs, IsInjections, IsJudged}
use Rattle.room_run.specs.Outcome.{Answers, says_lawful, lawful_line, IsTimedRunOfFiles, IsRunOfFiles}
use Rattle.room_run.specs.OneAnswer.{AreRead}
use Rattle.room_run.specs.Verified.{TellsAgain, PrintedRunsAreLawful}
use Rattle.room_run.specs.declared.status.Status.TheVariants as statuses
use Rattle.room_run.proofs.AnswerLaws.{calls_have_one_answer}
use Rattle.room_run.proofs.StillTexts.{answers_alike}

-- the journals of a run are lawful, by its tables and by its charts
by_tables : (plant : Plant) (lines : List Line) (fuel : ℕ) (j : Journals) → IsRun plant lines fuel j
    → IsVerdict (model_of plant) plant.wiring (items_of plant.wiring lines) fuel j verdicts.Lawful
by_tables plant lines fuel j run =
    lawful (record { count = run.count; run = record { world = run.world; lawful = run.lawful; ended = run.ended }; prompt = run.prompt })

by_charts : (t : Tables) (charts : List (Option Chart)) (lines : List Line) (fuel : ℕ) (j : Journals) → IsRunByCharts t charts lines fuel j
    → IsVerdict (behaviour_by_charts t charts) t (items_of t lines) fuel j verdicts.Lawful
by_charts t charts lines fuel j run = lawful (record { count = run.count; run = run.run; prompt = run.prompt })

-- what is so of a text that one shelf tells is so of it where another one tells it
again : (ran shelf : Shown) (name other text : List ℕ) (P Q : List ℕ → Type 0) → ((bytes : List ℕ) → P bytes → Q bytes)
    → ran.text name ≡ Some text → shelf.text other ≡ Some text → TextIs ran name P → TextIs shelf other Q
again ran shelf name other text P Q each told also h =
    subst (λ (o : Option (List ℕ)). IfSome o Q) (sym also) (each text (subst (λ (o : Option (List ℕ)). IfSome o P) told h))

untimed_lines : (t : Tables) (lines : List Line) → AreUntimed lines → (text : List ℕ) → IsInjections Taken t text lines → IsInjections Refused t text lines
untimed_lines t lines still text h = record { short = h.short; accepted = answers_alike t text lines h.accepted still; fit = h.fit }

pub printed_is_judged : (ran : Shown) (run : Files) (fuel : ℕ) (plant : Plant) (lines : List Line) (j : Journals) → IsTimedRunOfFiles ran run fuel plant lines j
    → AreUntimed lines → length (tied_text_of plant.wiring j) ≤ most_journal_bytes
    → (shelf : Shown) (files : Judged) → TellsAgain ran run shelf files (tied_text_of plant.wiring j) → IsJudged shelf files fuel plant lines j verdicts.Lawful
printed_is_judged ran run fuel plant lines j timed still short shelf files tells =
    let whole : IsRunOfFiles ran run fuel plant lines j = timed.untimed still in
    let has : HasJournals plant.wiring (tied_text_of plant.wiring j) j =
    record { short = short; fit = timed.fits; in_range = timed.in_range; is = inr (record { tied = timed.tied; text = refl }) } in
    record {
      texts = record {
        model_accepted =
            again ran shelf run.model files.run.model tells.model (λ text. IsModel text plant) (λ text. IsModel text plant) (λ bytes h. h)
            tells.model_told tells.model_again timed.texts.model_accepted;
        lines_accepted =
            again ran shelf run.injections files.run.injections tells.injections (λ text. IsInjections Taken plant.wiring text lines)
            (λ text. IsInjections Refused plant.wiring text lines) (untimed_lines plant.wiring lines still)
            tells.injections_told tells.injections_again timed.texts.lines_accepted;
      };
      journals_read = subst (λ (o : Option (List ℕ)). IfSome o (λ text. HasJournals plant.wiring text j)) (sym tells.journals_told) has;
      plant_fits = whole.plant_fits;
      lines_fit = whole.lines_fit;
      fits = timed.fits;
      verdict_is = by_tables plant lines fuel j whole.run;
      by_own_charts = by_charts plant.wiring whole.plant_fits.charts lines fuel j whole.by_own_charts;
      by_charts =
          again ran shelf run.model files.run.model tells.model
          (λ text. (charts : List (Option Chart)) × IsSoundText text plant.wiring charts × IsRunByCharts plant.wiring charts lines fuel j)
          (λ text. (charts : List (Option Chart)) × IsSoundText text plant.wiring charts
          × IsVerdict (behaviour_by_charts plant.wiring charts) plant.wiring (items_of plant.wiring lines) fuel j verdicts.Lawful)
          (λ bytes h. (h.0, h.1, by_charts plant.wiring h.0 lines fuel j h.2)) tells.model_told tells.model_again whole.by_charts;
    }

pub printed_runs_are_lawful : PrintedRunsAreLawful
printed_runs_are_lawful ran run fuel plant lines j timed still short before after words files asked tells =
    let answers : Answers before words lawful_line statuses.Done =
    says_lawful files fuel plant lines j asked (printed_is_judged ran run fuel plant lines j timed still short before files tells) refl refl in (
      answers,
      λ read why cause.
          (calls_have_one_answer before after words (subst (AreRead before after) (sym asked) read)).answered why lawful_line statuses.Done cause answers,
    )
