-- The wiring of a plant that fits tells things apart, so that the text of a run of it tells the run.
use Rattle.std.proofs.Common.{ℕ, List}
use Rattle.law_models.proofs.wiring_laws.chart_state_names.Models.{sound_well_named}
use Rattle.room_wiring.specs.Consistent.{IsConsistent}
use Rattle.room_wiring.specs.WellNamed.{IsWellNamed}
use Rattle.journal.specs.declared.entry.Journals.{Journals}
use Rattle.inject_reader.specs.declared.inject_lines.accepted.Line.{Line}
use Rattle.inject_reader.specs.Fitting.{LinesFit}
use Rattle.controller_actors.specs.declared.plant.Plant.{Plant}
use Rattle.model_run.specs.run_ends.Runs.{IsRun}
use Rattle.law_runs.specs.run_texts.Texts.{TextTells}
use Rattle.law_runs.proofs.run_texts.TextsLaw.{texts_tell}
use Rattle.law_models.proofs.settled_models.Wired.{wiring_consistent}
use Rattle.room_run.specs.fitting_plants.Plants.{PlantFits}

pub plant_consistent : (plant : Plant) → PlantFits plant → IsConsistent plant.wiring
plant_consistent plant fits = wiring_consistent fits.model plant.wiring fits.wired fits.keeps fits.flawless

pub plant_named : (plant : Plant) → PlantFits plant → IsWellNamed plant.wiring
plant_named plant fits = sound_well_named fits.model plant.wiring fits.charts fits.keeps fits.names fits.faultless fits.wired

pub text_tells : (plant : Plant) (lines : List Line) (fuel : ℕ) (j : Journals) → PlantFits plant
    → LinesFit plant.wiring lines → IsRun plant lines fuel j
    → TextTells plant lines j
text_tells plant lines fuel j fits fit run =
    texts_tell plant lines (plant_consistent plant fits) (plant_named plant fits) fit fuel j run
