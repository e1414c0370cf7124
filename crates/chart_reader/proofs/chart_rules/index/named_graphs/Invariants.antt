use Rattle.std.proofs.Common.{◌≡◌, map, take}
use Rattle.chart_trees.specs.chart_graphs.Views.{graph_view}
use Rattle.chart_reader.specs.chart_rules.Views.{named_view}
use Rattle.chart_reader.proofs.chart_rules.index.named_graphs.Given as goal

abbrev pub invariant-loop-graph : goal.invariant-loop-graph
invariant-loop-graph l = map named_view l.named.items ≡ map graph_view (take l.graph-index l.chart.graphs.items)
