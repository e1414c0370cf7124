-- The graphs and the chart that tables stand for.
use Rattle.std.specs.Prelude.{ℤ, List, map}
use Rattle.chart_model.specs.Chart.{Graph, Chart}
use Rattle.chart_trees.specs.chart_graphs.Views.{graph_view}
use Rattle.chart_reader.specs.declared.chart_rules.names.NamedGraph.{NamedGraph}

abbrev pub named_view : NamedGraph → Graph
named_view n = graph_view n.graph.now

-- the chart with these graphs and initial values
abbrev pub chart_of : List NamedGraph → List ℤ → Chart
chart_of graphs values = record { graphs = map named_view graphs; values = values }
