-- From three texts to the verdict on journals, and why there is none.
use Rattle.std.proofs.Common.{◌≡◌, refl, true, false, ℕ, List, IfSome, Option, Some, None}
use Rattle.room_outside.specs.Shown.{Shown, Keeps}
use Rattle.room_outside.proofs.ShelfLemmas.{IfSome-before, Keeps-then}
use Rattle.room_wiring.specs.declared.tables.Tables.{Tables}
use Rattle.inject_reader.specs.Fitting.{LinesFit}
use Rattle.inject_reader.specs.declared.inject_lines.accepted.Advances.TheVariants.{Refused}
use Rattle.inject_reader.specs.declared.inject_lines.accepted.Line.{Line}
use Rattle.journal.specs.Fits.{Fits}
use Rattle.journal.specs.declared.entry.Journals.{Journals}
use Rattle.chart_model.specs.Chart.{Chart}
use Rattle.controller_actors.specs.Plants.{model_of}
use Rattle.controller_actors.specs.declared.plant.Plant.{Plant}
use Rattle.model_run.specs.part_posts.Items.{items_of}
use Rattle.law_charts.specs.Charts.{behaviour_by_charts}
use Rattle.room_verify.specs.Laws.{VerdictsAreByCharts}
use Rattle.room_verify.specs.Verdicts.{IsVerdict}
use Rattle.room_verify.specs.declared.verdict.Verdict.{Verdict}
use Rattle.room_verify.specs.declared.verdict.Verdict.TheVariants as verdicts
use Rattle.room_run.specs.Words.{Files, Judged}
use Rattle.room_run.specs.Models.{IsModel, IsSoundText}
use Rattle.room_run.specs.Conversions.{HasJournals}
use Rattle.room_run.specs.Causes.{TextIs, IsInjections, HasRunTexts, IsJudged, InjectionsCauses, JournalsCauses, UnjudgedCauses, judged_injections, judged_journals}
use Rattle.room_run.specs.Judging.{AreJudged, is_lawful}
use Rattle.room_run.specs.fitting_plants.Plants.{PlantFits}
use Rattle.room_run.specs.declared.refusal.Refusal.{Refusal}
use Rattle.room_run.specs.declared.verify.Judgement.{Judgement}
use Rattle.room_run.proofs.CauseLemmas.{lines_causes_before}
use Rattle.room_run.proofs.ConvertLemmas.{journals_causes_before}

-- model and injections were read
pub both_judged : (before middle : Shown) (files : Files) (p : Plant) (lines : List Line) → TextIs before files.model (λ text. IsModel text p)
    → Keeps before middle → TextIs middle files.injections (λ text. IsInjections Refused p.wiring text lines) → HasRunTexts before files p lines
both_judged before middle files p lines accepted k read =
    record { model_accepted = accepted; lines_accepted = IfSome-before files.injections _ k read }

-- the model was read, and the injections are refused
pub refused_injections : (before middle after : Shown) (files : Judged) (p : Plant) (why : Refusal) → TextIs before files.run.model (λ text. IsModel text p)
    → Keeps before middle → InjectionsCauses middle after files.run.injections Refused p.wiring why → UnjudgedCauses before after files why
refused_injections before middle after files p why accepted k h = judged_injections p accepted (lines_causes_before k h)

-- both were read, and the journals are refused
pub refused_record : (before middle last after : Shown) (files : Judged) (p : Plant) (lines : List Line) (why : Refusal)
    → HasRunTexts before files.run p lines → Keeps before middle → Keeps middle last
    → JournalsCauses last after files.journals p.wiring why → UnjudgedCauses before after files why
refused_record before middle last after files p lines why accepted k l h =
    judged_journals p lines accepted (journals_causes_before k (journals_causes_before l h))

-- all three were read
pub all_judged : (before middle last : Shown) (files : Judged) (it : Judgement) → HasRunTexts before files.run it.plant it.lines.items
    → Keeps before middle → Keeps middle last → TextIs last files.journals (λ text. HasJournals it.plant.wiring text it.journals)
    → PlantFits it.plant → LinesFit it.plant.wiring it.lines.items → Fits it.plant.wiring it.journals → AreJudged before files it
all_judged before middle last files it texts k l read plant lines fits = record {
  texts = texts;
  journals_read = IfSome-before files.journals _ k (IfSome-before files.journals _ l read);
  plant_fits = plant;
  lines_fit = lines;
  fits = fits;
}

-- what is so of a text is so of it
also_is : (o : Option (List ℕ)) (P Q : List ℕ → Type 0) → ((text : List ℕ) → P text → Q text) → IfSome o P → IfSome o Q
also_is None P Q each h = tt
also_is (Some text) P Q each h = each text h

-- the verdict by tables is that by charts
pub judged : (shelf : Shown) (files : Judged) (fuel : ℕ) (it : Judgement) (v : Verdict) → VerdictsAreByCharts → AreJudged shelf files it
    → IsVerdict (model_of it.plant) it.plant.wiring (items_of it.plant.wiring it.lines.items) fuel it.journals v
    → IsJudged shelf files fuel it.plant it.lines.items it.journals v
judged shelf files fuel it v by_charts are verdict = record {
  texts = are.texts;
  journals_read = are.journals_read;
  plant_fits = are.plant_fits;
  lines_fit = are.lines_fit;
  fits = are.fits;
  verdict_is = verdict;
  by_own_charts = by_charts it.plant are.plant_fits.charts it.lines.items fuel it.journals v are.plant_fits.tables verdict;
  by_charts =
      also_is (shelf.text files.run.model) (λ text. IsModel text it.plant)
      (λ text. (charts : List (Option Chart)) × IsSoundText text it.plant.wiring charts
      × IsVerdict (behaviour_by_charts it.plant.wiring charts) it.plant.wiring (items_of it.plant.wiring it.lines.items) fuel it.journals v)
      (λ text h. (h.charts, h.is, by_charts it.plant h.charts it.lines.items fuel it.journals v h.tables verdict)) are.texts.model_accepted;
}

-- a verdict that is told to be lawful is
pub lawful_is : (v : Verdict) → is_lawful v ≡ true → v ≡ verdicts.Lawful
lawful_is (verdicts.Order party) h = absurd cc
lawful_is (verdicts.Start c) h = absurd cc
lawful_is (verdicts.Entry party stamp) h = absurd cc
lawful_is verdicts.Left h = absurd cc
lawful_is (verdicts.Fuel c) h = absurd cc
lawful_is verdicts.Ended h = absurd cc
lawful_is (verdicts.Prompt c stamp) h = absurd cc
lawful_is verdicts.Lawful h = refl

-- one that is not isn't
pub unlawful_is : (v : Verdict) → is_lawful v ≡ false → v ≡ verdicts.Lawful → ⊥
unlawful_is (verdicts.Order party) h is = absurd cc
unlawful_is (verdicts.Start c) h is = absurd cc
unlawful_is (verdicts.Entry party stamp) h is = absurd cc
unlawful_is verdicts.Left h is = absurd cc
unlawful_is (verdicts.Fuel c) h is = absurd cc
unlawful_is verdicts.Ended h is = absurd cc
unlawful_is (verdicts.Prompt c stamp) h is = absurd cc
unlawful_is verdicts.Lawful h is = absurd cc
