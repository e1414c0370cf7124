use Rattle.std.proofs.Common.{◌≡◌, ◌+◌, ◌-◌, length, map, sum, take}
use Rattle.chart_model.specs.Named.{nodes_in}
use Rattle.chart_trees.specs.chart_graphs.Views.{graph_view}
use Rattle.chart_compile.specs.Joined.{SameNodes}
use Rattle.chart_compile.proofs.nodes.fill_up.Given as goal

abbrev pub invariant-loop-graph : goal.invariant-loop-graph
invariant-loop-graph l =
    let many = sum (map nodes_in (map graph_view (take l.graph-index l.graphs))) in
    let old = length l.fn.nodes.items in
    SameNodes l.fn.nodes.items l.nodes.items × (l.there ≡ old - many) × (length l.nodes.items ≡ old + (many - old))
