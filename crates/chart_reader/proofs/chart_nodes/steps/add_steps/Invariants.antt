use Rattle.std.proofs.Common.{◌≡◌, ◌++◌, map, drop}
use Rattle.chart_trees.specs.chart_graphs.Views.{transition_view}
use Rattle.chart_reader.specs.chart_nodes.Steps.{step_of, step_view}
use Rattle.chart_reader.proofs.chart_nodes.steps.add_steps.Given as goal

abbrev pub invariant-loop-transition : goal.invariant-loop-transition
invariant-loop-transition l =
    map step_view l.steps.items ++ map (λ t. step_of l.graph.owner (transition_view t)) (drop l.transition-index l.graph.transitions.items) ≡ map step_view l.initial.steps.items ++ map (λ t. step_of l.graph.owner (transition_view t)) l.graph.transitions.items
