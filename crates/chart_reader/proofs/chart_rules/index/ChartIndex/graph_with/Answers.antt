use Rattle.std.proofs.Common.{Bor, option_map, ap, map}
use Rattle.chart_reader.specs.declared.chart_rules.names.NamedGraph.{NamedGraph}
use Rattle.chart_reader.specs.chart_rules.Views.{named_view}
use Rattle.chart_reader.specs.chart_rules.IndexView.{index_view}
use Rattle.chart_reader.proofs.chart_rules.Found.{graph_found}
use Rattle.chart_reader.proofs.chart_rules.index.ChartIndex.graph_with.Goals as goal

pub returns : goal.returns
returns c =
    graph_found (index_view c.args.self.now) (map named_view c.as_slice.result.now) c.args.self.now.keys c.args.key.now (option_map (λ (g : Bor NamedGraph). named_view g.now) c.find_graph.result)
    (ap (map named_view) c.as_slice.ensures.value) c.args.self.now.keys_are c.find_graph.ensures
