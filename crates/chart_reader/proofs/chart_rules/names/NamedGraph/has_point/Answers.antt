use Rattle.std.proofs.Common.{◌∙◌, ap}
use Rattle.name_tables.specs.name_numbers.Names.{is_among}
use Rattle.chart_model.specs.Chart.{Name}
use Rattle.chart_trees.specs.chart_graphs.Views.{graph_view, kind_view}
use Rattle.chart_reader.proofs.chart_rules.NamesFound.{point_found}
use Rattle.chart_reader.proofs.chart_rules.names.NamedGraph.has_point.Goals as goal

pub returns : goal.returns
returns c =
    c.has.ensures ∙ ap (λ (n : Name). is_among c.points_with-points.result.now n) c.as_bytes.ensures
    ∙ point_found (kind_view c.args.kind) (graph_view c.args.self.now.graph.now) c.points_with-points.result.now c.args.name.now c.points_with-points.ensures
