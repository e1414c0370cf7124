use Rattle.std.proofs.Common.{◌≡◌, ◌++◌, map, drop}
use Rattle.chart_trees.specs.chart_graphs.Views.{chart_view, graph_view}
use Rattle.chart_reader.specs.chart_nodes.Steps.{steps_behind, steps_of, step_view}
use Rattle.chart_reader.proofs.chart_nodes.steps.steps_of.Given as goal

abbrev pub invariant-loop-i : goal.invariant-loop-i
invariant-loop-i l = map step_view l.steps.items ++ steps_behind l.seen (map graph_view (drop l.i l.chart.graphs.items)) ≡ steps_of (chart_view l.chart)
