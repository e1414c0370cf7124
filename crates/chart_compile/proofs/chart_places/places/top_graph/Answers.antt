use Rattle.std.proofs.Common.{[], refl}
use Rattle.chart_trees.specs.chart_graphs.Views.{chart_view}
use Rattle.chart_compile.proofs.chart_places.PlaceLaws.{found_at}
use Rattle.chart_compile.proofs.chart_places.places.top_graph.Goals as goal

pub returns : goal.returns
returns c =
    found_at (chart_view c.args.chart.now) c.args.chart.now.graphs.items c.args.graphs.now c.in_ok-key.key.items c.as_slice.result.now [] c.find_graph.result refl c.requires c.as_slice.ensures.value c.in_ok-key.ensures c.find_graph.ensures
