use Rattle.std.proofs.Common.{◌≡◌, map, drop}
use Rattle.std.specs.List.{list_all}
use Rattle.chart_reader.specs.chart_rules.Rules.{begins_once_at_most}
use Rattle.chart_reader.specs.chart_rules.Views.{named_view}
use Rattle.chart_reader.specs.chart_rules.IndexView.{index_view}
use Rattle.chart_reader.proofs.chart_rules.rules.has_one_initial_at_most.Given as goal

-- what was passed passes
abbrev pub invariant-loop-graph : goal.invariant-loop-graph
invariant-loop-graph l = list_all (begins_once_at_most (index_view l.chart)) (map named_view (drop l.graph-index l.chart.graphs.items)) ≡ list_all (begins_once_at_most (index_view l.chart)) (map named_view l.chart.graphs.items)
