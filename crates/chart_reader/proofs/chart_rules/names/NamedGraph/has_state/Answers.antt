use Rattle.std.proofs.Common.{◌∙◌, ap}
use Rattle.name_tables.specs.name_numbers.Names.{is_among}
use Rattle.chart_model.specs.Chart.{Name}
use Rattle.chart_trees.specs.chart_graphs.Views.{graph_view}
use Rattle.chart_reader.proofs.chart_rules.NamesFound.{state_found}
use Rattle.chart_reader.proofs.chart_rules.names.NamedGraph.has_state.Goals as goal

pub returns : goal.returns
returns c =
    c.has.ensures ∙ ap (λ (n : Name). is_among c.args.self.now.states n) c.as_bytes.ensures ∙ state_found (graph_view c.args.self.now.graph.now) c.args.self.now.states c.args.name.now c.args.self.now.states_are
