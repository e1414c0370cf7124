-- What reading the charts of a model answers.
use Rattle.std.specs.Prelude.{map, option_map, Option, Result, Ok, Err}
use Rattle.std.specs.Global.{Vec}
use Rattle.room_ast.specs.Trees.{ModelTree}
use Rattle.chart_trees.specs.declared.chart_graphs.Chart.{Chart as CodeChart}
use Rattle.chart_trees.specs.chart_graphs.Views.{chart_view}
use Rattle.chart_reader.specs.declared.model_charts.fault.ChartsFault.{ChartsFault}
use Rattle.chart_reader.specs.declared.model_charts.fault.ChartsFault.TheVariants as faults
use Rattle.chart_reader.specs.model_charts.Charts.{HasCharts, HasFaultyChart}

-- The charts of all actor classes, none of which has a fault; or the first class whose chart has one, unless memory ran out.
abbrev pub ReadsCharts : ModelTree → Result (Vec (Option CodeChart)) ChartsFault → Type 0
ReadsCharts m (Ok charts) = HasCharts m (map (option_map chart_view) charts.items)
ReadsCharts m (Err (faults.Chart class fault)) = HasFaultyChart m class fault
ReadsCharts m (Err faults.Memory) = Unit {0}
