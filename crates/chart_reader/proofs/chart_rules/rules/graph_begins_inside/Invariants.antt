use Rattle.std.proofs.Common.{◌≡◌, map, drop}
use Rattle.std.specs.List.{list_all}
use Rattle.chart_trees.specs.chart_graphs.Views.{transition_view}
use Rattle.chart_model.specs.Valid.{begins_inside}
use Rattle.chart_reader.specs.chart_rules.Views.{named_view}
use Rattle.chart_reader.specs.chart_rules.IndexView.{index_view}
use Rattle.chart_reader.proofs.chart_rules.rules.graph_begins_inside.Given as goal

-- what was passed passes
abbrev pub invariant-loop-transition : goal.invariant-loop-transition
invariant-loop-transition l = list_all (λ t. begins_inside (index_view l.chart) (named_view l.graph) t.target) (map transition_view (drop l.transition-index l.graph.graph.now.transitions.items)) ≡ list_all (λ t. begins_inside (index_view l.chart) (named_view l.graph) t.target) (map transition_view l.graph.graph.now.transitions.items)
