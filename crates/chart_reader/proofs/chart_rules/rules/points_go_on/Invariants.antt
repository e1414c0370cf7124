use Rattle.std.proofs.Common.{◌≡◌, map, drop}
use Rattle.std.specs.List.{list_all}
use Rattle.chart_trees.specs.chart_graphs.Views.{point_view}
use Rattle.chart_model.specs.Valid.{goes_on_once}
use Rattle.chart_reader.specs.chart_rules.IndexView.{index_view}
use Rattle.chart_reader.proofs.chart_rules.rules.points_go_on.Given as goal

-- what was passed passes
abbrev pub invariant-loop-point : goal.invariant-loop-point
invariant-loop-point l = list_all (goes_on_once (index_view l.chart) l.graph.graph.now.owner) (map point_view (drop l.point-index l.graph.graph.now.points.items)) ≡ list_all (goes_on_once (index_view l.chart) l.graph.graph.now.owner) (map point_view l.graph.graph.now.points.items)
