-- A run that has ended and is not written yet.
use Rattle.std.specs.Prelude.{◌≡◌, ℕ, true, List}
use Rattle.journal.specs.declared.entry.Journals.{Journals}
use Rattle.journal_reader.specs.journal_texts.InRange.{IsInRange}
use Rattle.made_model.specs.Summaries.{summary_of}
use Rattle.made_model.specs.declared.summary.Summary.{Summary}
use Rattle.inject_reader.specs.Fitting.{LinesFit, AreUntimed}
use Rattle.inject_reader.specs.declared.inject_lines.accepted.Line.{Line}
use Rattle.controller_actors.specs.declared.plant.Plant.{Plant}
use Rattle.model_run.specs.run_ends.Runs.{IsRun}
use Rattle.timed_runs.specs.Timed.{IsTimedRun, NoneIsDue}
use Rattle.room_run.specs.Words.{usual_fuel}
use Rattle.room_run.specs.fitting_plants.Plants.{PlantFits}
use Rattle.room_run.specs.MadeShelf.{made_files, made_shelf}
use Rattle.room_run.specs.Causes.{AreOf}
use Rattle.room_run.specs.declared.prepare.Recorded.{Recorded}

-- these are the journals of a run of this plant, which fits, over these lines, which fit it, with so much fuel; where it is done no armed timer is due; where the lines don't move the time on it is a run over the lines; and the numbers of the journals are in the ranges of their types
pub record HasRun (plant : Plant) (lines : List Line) (fuel : ℕ) (j : Journals) : Type 0 where
  pub plant_fits : PlantFits plant
  pub lines_fit : LinesFit plant.wiring lines
  pub timed : IsTimedRun plant lines fuel j
  pub none_due : j.done ≡ true → NoneIsDue plant.wiring lines j
  pub untimed : AreUntimed lines → IsRun plant lines fuel j
  pub in_range : IsInRange j

-- they are told under the names of the plant's wiring
pub record Finishes (plant : Plant) (lines : List Line) (fuel : ℕ) (f : Recorded) : Type 0 where
  pub wiring : f.wiring ≡ plant.wiring
  pub run : HasRun plant lines fuel f.journals

-- it tells of the journals of a run of the made model of so many actors over its injections
pub record Summarizes (actors : ℕ) (summary : Summary) : Type 0 where
  pub plant : Plant
  pub lines : List Line
  pub journals : Journals
  pub texts : AreOf (made_shelf actors) made_files plant lines
  pub run : HasRun plant lines usual_fuel journals
  pub is : summary ≡ summary_of actors journals
