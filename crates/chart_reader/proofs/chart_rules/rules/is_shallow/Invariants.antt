use Rattle.std.proofs.Common.{◌≡◌, map, drop}
use Rattle.std.specs.List.{list_all}
use Rattle.chart_model.specs.Valid.{is_shallow}
use Rattle.chart_reader.specs.chart_rules.Views.{named_view}
use Rattle.chart_reader.proofs.chart_rules.rules.is_shallow.Given as goal

-- what was passed passes
abbrev pub invariant-loop-graph : goal.invariant-loop-graph
invariant-loop-graph l = list_all is_shallow (map named_view (drop l.graph-index l.chart.graphs.items)) ≡ list_all is_shallow (map named_view l.chart.graphs.items)
