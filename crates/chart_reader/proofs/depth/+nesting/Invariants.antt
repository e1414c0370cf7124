use Rattle.std.proofs.Common.{◌≡◌, drop}
use Rattle.room_ast.specs.ChartTree.{graph_view}
use Rattle.chart_reader.specs.Depth.{graph_nests}
use Rattle.chart_reader.proofs.depth.+nesting.Given as goal

-- what is left to look at says it
abbrev pub invariant-graph_nests-loop-item : goal.invariant-graph_nests-loop-item
invariant-graph_nests-loop-item l = graph_nests (graph_view (drop l.item-index l.items.items)) l.most ≡ graph_nests (graph_view l.items.items) l.most
