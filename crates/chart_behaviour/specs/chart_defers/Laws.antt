-- The law that actors say of a message that it is deferred exactly where they defer it.
use Rattle.std.specs.Prelude.{List, Option}
use Rattle.room_wiring.specs.declared.tables.Tables.{Tables as Wiring}
use Rattle.chart_run.specs.declared.chart_tables.tables.Tables.{Tables}
use Rattle.actor_world.specs.world_laws.Whereabouts.{TellsDefers}
use Rattle.chart_behaviour.specs.ModelCharts.{behaviour_of}

-- so it is of each model
abbrev pub ChartsTellDefers : Type 0
ChartsTellDefers = (w : Wiring) (classes : List (Option Tables)) → TellsDefers (behaviour_of w classes)
