-- Which plants fit, and what is so of each that does.
-- `PlantFits`: a plant fits where it is that of some model. Every name in the model is a name of the
-- language, as in each text; the model keeps all rules, its wiring has no fault, and no chart of it has
-- one; the plant has its wiring, and for each actor class the tables that show its chart, or none where
-- the class has no chart.
-- The law `plants_fit`: of every such plant `IsFitting` is so, field by field. So whoever is given a
-- plant that fits may rely on each of these facts, and needs no premise of his own.
use Rattle.std.specs.Prelude.{◌≡◌, ℕ, List, [], Option, Some, None, map, slice_get}
use Rattle.room_ast.specs.Tokens.{model_tokens}
use Rattle.room_ast.specs.Trees.{ModelTree}
use Rattle.room_tokens.specs.token_names.Names.{HasNames}
use Rattle.structure_check.specs.List.{all_rules}
use Rattle.structure_check.specs.Rules.{first_broken}
use Rattle.room_wiring.specs.WellNamed.{IsWellNamed}
use Rattle.room_wiring.specs.declared.names.ClassNames.{ClassNames}
use Rattle.binding_expand.specs.Faults.{HasNoFault}
use Rattle.binding_expand.specs.Wirings.{IsWiringOf}
use Rattle.chart_model.specs.Chart.{Chart}
use Rattle.chart_model.specs.States.{states_of, state_label}
use Rattle.chart_run.specs.chart_tables.Tables.{IsSound}
use Rattle.chart_run.specs.declared.chart_tables.tables.Tables.{Tables}
use Rattle.chart_reader.specs.model_charts.Charts.{HasCharts}
use Rattle.chart_compile.specs.chart_parts.Compiled.{Compiles}
use Rattle.service_messages.specs.slot_runs.Runs.{IsDepthFirst}
use Rattle.frame_service.specs.frame_imports.Numbered.{ArePortsNumbered}
use Rattle.actor_world.specs.Directories.{IsOpen}
use Rattle.actor_world.specs.Life.{IsModest}
use Rattle.actor_world.specs.world_laws.Whereabouts.{TellsDefers}
use Rattle.law_models.specs.class_laws.Commands.{AsksWhatItCan}
use Rattle.law_models.specs.class_laws.Programs.{TablesName}
use Rattle.controller_actors.specs.Plants.{model_of}
use Rattle.controller_actors.specs.declared.plant.Plant.{Plant}
use Rattle.law_charts.specs.Charts.{ShowCharts}

-- the plant is that of some model that keeps all rules and has no fault
pub record PlantFits (plant : Plant) : Type 0 where
  pub model : ModelTree
  pub names : HasNames (model_tokens model)
  pub keeps : first_broken all_rules model ≡ None
  pub wired : IsWiringOf model plant.wiring
  pub flawless : HasNoFault model
  pub charts : List (Option Chart)
  pub faultless : HasCharts model charts
  pub tables : ShowCharts plant.tables.items charts

-- the labels of the states of a class are those of the chart from which its tables are compiled, number by number; none where it has no tables
abbrev pub HasLabels : ClassNames → Option Tables → Type 0
HasLabels c None = c.states ≡ []
HasLabels c (Some v) = (chart : Chart) × Compiles v chart × (c.states ≡ map state_label (states_of chart))

-- what is so of each plant that fits
pub record IsFitting (plant : Plant) : Type 0 where
  -- its names tell things apart, and are formed from identifiers
  pub well_named : IsWellNamed plant.wiring
  -- its slots are numbered depth first
  pub depth_first : IsDepthFirst plant.wiring
  -- its ports have numbers of 16 bits
  pub ports_numbered : ArePortsNumbered plant.wiring
  -- its tables are sound
  pub sound : (k : ℕ) (v : Tables) → slice_get plant.tables.items k ≡ Some (Some v) → IsSound v
  -- what the tables of a class run names what the class has
  pub names_what_is_there : (k : ℕ) (c : ClassNames) (v : Tables) → slice_get plant.wiring.classes k ≡ Some c
      → slice_get plant.tables.items k ≡ Some (Some v) → TablesName c v
  -- and an actor of it asks for nothing but what the class can ask for
  pub asks_what_it_can : (k : ℕ) (c : ClassNames) (v : Tables) → slice_get plant.wiring.classes k ≡ Some c
      → slice_get plant.tables.items k ≡ Some (Some v) → AsksWhatItCan c v
  -- the labels of its states are those of its chart
  pub labelled : (k : ℕ) (c : ClassNames) (v : Option Tables) → slice_get plant.wiring.classes k ≡ Some c
      → slice_get plant.tables.items k ≡ Some v → HasLabels c v
  -- its actors send nothing at priority 0, note nothing of lives, and say that a message is deferred exactly where they defer it
  pub sends_openly : IsOpen (model_of plant)
  pub modest : IsModest (model_of plant)
  pub tells_defers : TellsDefers (model_of plant)

-- each plant that fits is so
abbrev pub PlantsFit : Type 0
PlantsFit = (plant : Plant) → PlantFits plant → IsFitting plant
