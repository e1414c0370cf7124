use Rattle.std.proofs.Common.{◌≡◌, map, take}
use Rattle.chart_trees.specs.declared.chart_graphs.Graph.{Graph}
use Rattle.chart_reader.specs.chart_nodes.Keys.{codes}
use Rattle.chart_reader.proofs.chart_nodes.steps.graph_keys.Given as goal

abbrev pub invariant-loop-graph : goal.invariant-loop-graph
invariant-loop-graph l = l.keys.items ≡ map (λ (g : Graph). codes g.owner) (take l.graph-index l.graphs)
