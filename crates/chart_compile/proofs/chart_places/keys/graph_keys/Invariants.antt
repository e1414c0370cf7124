use Rattle.std.proofs.Common.{◌≡◌, map, take}
use Rattle.chart_trees.specs.chart_graphs.Views.{graph_view}
use Rattle.chart_compile.specs.chart_places.Places.{keys_of}
use Rattle.chart_compile.proofs.chart_places.keys.graph_keys.Given as goal

abbrev pub invariant-loop-graph : goal.invariant-loop-graph
invariant-loop-graph l = l.keys.items ≡ keys_of (map graph_view (take l.graph-index l.graphs))
