-- What is so of every world that a run of a plant that fits leads to, over lines that fit, in the middle of it too,
-- and what all controllers agree on wherever it is quiet. There are no premises but that the plant and the lines
-- fit. The law `fitting_worlds_agree`.
use Rattle.std.specs.Prelude.{List}
use Rattle.inject_reader.specs.Fitting.{LinesFit}
use Rattle.inject_reader.specs.declared.inject_lines.accepted.Line.{Line}
use Rattle.actor_merge.specs.World.{World, Placed, IsQuiet, Runs, start}
use Rattle.actor_world.specs.Body.{Body}
use Rattle.actor_world.specs.Journals.{lines_of}
use Rattle.chart_behaviour.specs.ModelCharts.{Actor}
use Rattle.controller_actors.specs.Plants.{model_of}
use Rattle.controller_actors.specs.declared.plant.Plant.{Plant}
use Rattle.law_models.specs.quiet_worlds.Worlds.{Stands}
use Rattle.model_run.specs.part_posts.Items.{items_of}
use Rattle.room_run.specs.Agreement.{AllAgree}
use Rattle.room_run.specs.fitting_plants.Plants.{PlantFits}
use Rattle.room_run.specs.fitting_plants.Runs.{running}

-- over every plant that fits, lines that fit, and every run so far
abbrev pub FittingWorldsStand : Type 0
FittingWorldsStand =
    (plant : Plant) (lines : List Line) → PlantFits plant → LinesFit plant.wiring lines
    → (xs : List Placed) (w : World (Body Actor)) → Runs (running plant lines) (start (running plant lines)) xs w
    → Stands (model_of plant) plant.wiring (lines_of (items_of plant.wiring lines)) xs w

-- and where that is quiet, all controllers agree
abbrev pub QuietFittingWorldsAgree : Type 0
QuietFittingWorldsAgree =
    (plant : Plant) (lines : List Line) → PlantFits plant → LinesFit plant.wiring lines
    → (xs : List Placed) (w : World (Body Actor)) → Runs (running plant lines) (start (running plant lines)) xs w
    → IsQuiet (running plant lines) w → AllAgree plant.wiring w
