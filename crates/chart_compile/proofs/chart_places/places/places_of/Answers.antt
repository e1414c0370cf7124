use Rattle.std.proofs.Common.{◌∙◌, Bor, Option, [], ap, length, map, subst, sym}
use Rattle.chart_trees.specs.chart_graphs.Views.{chart_view}
use Rattle.chart_trees.specs.declared.chart_graphs.Graph.{Graph as CodeGraph}
use Rattle.chart_compile.specs.chart_places.Places.{FoundAt, place_view}
use Rattle.chart_compile.proofs.chart_places.PlaceLaws.{below_none}
use Rattle.chart_compile.proofs.chart_places.places.places_of.Goals as goal

pub returns-in-None : goal.returns-in-None
returns-in-None c =
    let chart = chart_view c.args.chart.now in
    ap (map place_view) c.new-places.ensures.items ∙ sym (below_none chart (length chart.graphs) [] (subst (λ (o : Option (Bor CodeGraph)). FoundAt chart [] o) c.in-None.is c.in_ok-top.ensures))
