use Rattle.std.proofs.Common.{List, map, ap, ◌∙◌}
use Rattle.std.specs.List.{filter_map}
use Rattle.chart_model.specs.Chart.{a_transition_point, an_entry_point, an_exit_point}
use Rattle.chart_trees.specs.chart_graphs.Views.{point_view}
use Rattle.chart_trees.specs.declared.chart_graphs.Point.{Point}
use Rattle.chart_reader.specs.chart_rules.Index.{name_of_kind}
use Rattle.chart_reader.proofs.chart_rules.names.NamedGraph.of.Goals as goal

pub invariant_of-result : goal.invariant_of-result
invariant_of-result c = record {
  states_are = c.in_ok-states.ensures;
  choices_are = c.in_ok-choices.ensures ∙ c.as_slice.ensures;
  transition_points_are = c.in_ok-transition_points.ensures ∙ ap (λ (ps : List Point). filter_map (name_of_kind a_transition_point) (map point_view ps)) c.as_slice-points.ensures.value;
  entries_are = c.in_ok-entries.ensures ∙ ap (λ (ps : List Point). filter_map (name_of_kind an_entry_point) (map point_view ps)) c.as_slice-points.ensures.value;
  exits_are = c.in_ok-exits.ensures ∙ ap (λ (ps : List Point). filter_map (name_of_kind an_exit_point) (map point_view ps)) c.as_slice-points.ensures.value;
}
