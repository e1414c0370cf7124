use Rattle.std.proofs.Common.{map, take, option_map}
use Rattle.chart_trees.specs.chart_graphs.Views.{chart_view}
use Rattle.law_charts.specs.Charts.{ShowCharts}
use Rattle.room_run.proofs.model_plants.plants.all_tables.Given as goal

abbrev pub invariant-loop-chart : goal.invariant-loop-chart
invariant-loop-chart l = ShowCharts l.tables.items (map (option_map chart_view) (take l.chart-index l.charts))
