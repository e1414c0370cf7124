use Rattle.std.proofs.Common.{List, map, subst}
use Rattle.chart_trees.specs.chart_graphs.Views.{chart_view}
use Rattle.number_graphs.specs.class_containment.Walks.{Orders}
use Rattle.chart_reader.specs.chart_nodes.Circles.{parts_of}
use Rattle.chart_reader.specs.chart_nodes.Steps.{step_view}
use Rattle.chart_reader.specs.declared.chart_nodes.steps.Step.{Step}
use Rattle.chart_reader.proofs.chart_nodes.CircleLaws.{circle_is, none_is}
use Rattle.chart_reader.proofs.chart_nodes.circles.has_circle.Goals as goal

pub returns : goal.returns
returns c =
    let order = c.in_ok-order.order in
    circle_is (chart_view c.args.chart.now) (map step_view c.in_ok-steps.steps.items) order c.is_none.result c.in_ok-steps.ensures (subst (λ (l : List Step). Orders (parts_of (map step_view l)) order) c.as_slice.ensures.value c.in_ok-order.ensures) (none_is order c.is_none.result c.is_none.ensures)
