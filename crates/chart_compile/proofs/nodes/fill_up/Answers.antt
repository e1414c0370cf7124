use Rattle.std.proofs.Common.{◌∙◌, ap, arith, map, sum}
use Rattle.chart_model.specs.Named.{nodes_in}
use Rattle.chart_trees.specs.chart_graphs.Views.{graph_view}
use Rattle.chart_trees.specs.declared.chart_graphs.Graph.{Graph as CodeGraph}
use Rattle.std.specs.Prelude.{List}
use Rattle.chart_compile.proofs.Making.{nodes_more}
use Rattle.chart_compile.proofs.chart_rows.Listing.{taken_all}
use Rattle.chart_compile.proofs.nodes.fill_up.Goals as goal

pub loop-graph-preserved : goal.loop-graph-preserved
loop-graph-preserved c =
    let more = nodes_more c.args.graphs.now c.loop-graph.graph-index c.graph-item.result c.loop-graph-test.true c.graph-item.is in (
      λ n. c.in_ok-there.ensures.same n ∙ c.loop-graph.invariant.0 n,
      omega (arith, more, c.in_ok-there.ensures.there, c.loop-graph.invariant.1),
      omega (arith, more, c.in_ok-there.ensures.size, c.loop-graph.invariant.1, c.loop-graph.invariant.2),
    )

pub returns-clause-size : goal.returns-clause-size
returns-clause-size c =
    let all = ap (λ (l : List CodeGraph). sum (map nodes_in (map graph_view l))) (taken_all c.args.graphs.now c.loop-graph.graph-index c.loop-graph-test.false) in
    omega (arith, all, c.loop-graph.invariant.2, c.requires)
