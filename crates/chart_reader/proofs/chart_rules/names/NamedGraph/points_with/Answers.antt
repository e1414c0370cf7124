use Rattle.std.proofs.Common.{◌∙◌, ap, sym}
use Rattle.room_ast.specs.declared.chart.PointKind.{PointKind}
use Rattle.chart_trees.specs.chart_graphs.Views.{graph_view, kind_view}
use Rattle.chart_reader.specs.chart_rules.Index.{point_names}
use Rattle.chart_reader.proofs.chart_rules.names.NamedGraph.points_with.Goals as goal

pub returns-in-Transition : goal.returns-in-Transition
returns-in-Transition c =
    c.args.self.now.transition_points_are ∙ ap (λ (k : PointKind). point_names (kind_view k) (graph_view c.args.self.now.graph.now)) (sym c.in-Transition.is)

pub returns-in-Entry : goal.returns-in-Entry
returns-in-Entry c = c.args.self.now.entries_are ∙ ap (λ (k : PointKind). point_names (kind_view k) (graph_view c.args.self.now.graph.now)) (sym c.in-Entry.is)

pub returns-in-Exit : goal.returns-in-Exit
returns-in-Exit c = c.args.self.now.exits_are ∙ ap (λ (k : PointKind). point_names (kind_view k) (graph_view c.args.self.now.graph.now)) (sym c.in-Exit.is)
