use Rattle.std.proofs.Common.{map, ap, ◌∙◌}
use Rattle.room_ast.specs.declared.scope.ScopeAttribute.{ScopeAttribute}
use Rattle.room_ast.specs.ChartTree.{graph_view}
use Rattle.chart_trees.specs.chart_graphs.Views.{graph_view as code_graph_view}
use Rattle.chart_trees.specs.Views.{piece_view}
use Rattle.chart_trees.proofs.Steps.{chart_written}
use Rattle.chart_trees.proofs.written.write_chart.Goals as goal

pub returns-clause-chart : goal.returns-clause-chart
returns-clause-chart c =
    chart_written c.args.scope.now c.args.names.now (graph_view c.args.machine.now.items.items) (map code_graph_view c.in_ok-graphs.graphs.items) c.in_ok-values.values.items (piece_view c.in_ok-piece.piece c.read_graph.new.names)
    c.in_ok-piece.ensures.piece (c.in_ok-graphs.ensures c.read_graph.new.names) (c.in_ok-values.ensures ∙ ap (map (λ (a : ScopeAttribute). a.initial)) c.as_slice.ensures.value)
