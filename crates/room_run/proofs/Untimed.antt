-- Lines that don't move virtual time on, and what a run over lines that may gives.
use Rattle.std.proofs.Common.{◌≡◌, ℕ, true, List, [], ◌∷◌}
use Rattle.std.specs.List.{AllByRecursion}
use Rattle.journal.specs.declared.entry.Journals.{Journals}
use Rattle.journal_reader.specs.journal_texts.InRange.{IsInRange}
use Rattle.inject_reader.specs.declared.inject_lines.accepted.Line.{Line}
use Rattle.inject_reader.specs.declared.inject_lines.accepted.What.{What}
use Rattle.inject_reader.specs.declared.inject_lines.accepted.What.TheVariants as whats
use Rattle.inject_reader.specs.Fitting.{StandsStill, AreUntimed, LinesFit}
use Rattle.controller_actors.specs.declared.plant.Plant.{Plant}
use Rattle.model_run.specs.run_ends.Runs.{IsRun}
use Rattle.room_timer.specs.Laws.{IsPlain}
use Rattle.timed_runs.specs.Timed.{IsTimedRun, NoneIsDue}
use Rattle.room_run.specs.fitting_plants.Plants.{PlantFits}
use Rattle.room_run.specs.Finished.{HasRun}

is_plain : (w : What) → StandsStill w → (time : ℕ) → w ≡ whats.Advance time → ⊥
is_plain whats.Settle h time e = absurd cc
is_plain (whats.Advance other) h time e = h
is_plain (whats.Message target signal payload prio) h time e = absurd cc

pub are_plain : (lines : List Line) → AreUntimed lines → AllByRecursion IsPlain lines
are_plain [] h = tt
are_plain (l ∷ lines) h = (is_plain l.what h.0, are_plain lines h.1)

-- what a run over lines that fit gives
pub has_run : (p : Plant) (lines : List Line) (fuel : ℕ) (j : Journals) → PlantFits p → LinesFit p.wiring lines
    → IsTimedRun p lines fuel j
    → (j.done ≡ true → NoneIsDue p.wiring lines j)
    → (AllByRecursion IsPlain lines → IsRun p lines fuel j)
    → IsInRange j
    → HasRun p lines fuel j
has_run p lines fuel j fits fit timed later plain range = record {
  plant_fits = fits;
  lines_fit = fit;
  timed = timed;
  none_due = later;
  untimed = λ still. plain (are_plain lines still);
  in_range = range;
}
