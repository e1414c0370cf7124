use Rattle.std.proofs.Common.{◌∙◌, ◌∷◌, ap, refl}
use Rattle.chart_trees.specs.chart_graphs.Views.{chart_view}
use Rattle.chart_reader.specs.chart_nodes.Keys.{codes}
use Rattle.chart_compile.proofs.chart_places.PlaceLaws.{found_at}
use Rattle.chart_compile.proofs.chart_places.places.inner_graph.Goals as goal

pub returns : goal.returns
returns c =
    found_at (chart_view c.args.chart.now) c.args.chart.now.graphs.items c.args.graphs.now c.in_ok-key.key.items c.as_slice-2.result.now (c.args.state.now.name ∷ c.args.graph.now.owner) c.find_graph.result refl c.requires c.as_slice-2.ensures.value (c.in_ok-key.ensures ∙ ap (λ l. 2 ∷ codes (c.args.state.now.name ∷ l)) c.as_slice.ensures) c.find_graph.ensures
