use Rattle.std.proofs.Common.{◌≡◌, drop}
use Rattle.std.specs.List.{list_all}
use Rattle.chart_model.specs.Valid.{has_default}
use Rattle.chart_reader.specs.chart_rules.Views.{named_view}
use Rattle.chart_reader.specs.chart_rules.IndexView.{index_view}
use Rattle.chart_reader.proofs.chart_rules.rules.graph_has_defaults.Given as goal

-- what was passed passes
abbrev pub invariant-loop-choice : goal.invariant-loop-choice
invariant-loop-choice l = list_all (has_default (index_view l.chart) (named_view l.graph)) (drop l.choice-index l.choices) ≡ list_all (has_default (index_view l.chart) (named_view l.graph)) l.graph.graph.now.choices
