use Rattle.std.proofs.Common.{map}
use Rattle.chart_trees.specs.chart_graphs.Views.{transition_view}
use Rattle.chart_reader.specs.chart_nodes.Steps.{step_of, step_view}
use Rattle.chart_reader.proofs.chart_nodes.StepLaws.{made_done}
use Rattle.chart_reader.proofs.chart_nodes.steps.add_steps.Goals as goal

pub returns : goal.returns
returns c =
    made_done (step_of c.args.graph.now.owner) transition_view (map step_view c.loop-transition.steps.items) (map step_view c.args.steps.now.items) c.deref-transition-items.result.now c.args.graph.now.transitions.items c.loop-transition.transition-index c.loop-transition-test.false c.deref-transition-items.ensures.value c.loop-transition.invariant
