use Rattle.std.proofs.Common.{map, subst}
use Rattle.std.specs.Prelude.{Option}
use Rattle.std.specs.Global.{Vec}
use Rattle.std.proofs.Common.{ℕ}
use Rattle.number_graphs.specs.class_containment.Walks.{Orders}
use Rattle.chart_reader.specs.chart_nodes.Steps.{step_view}
use Rattle.chart_reader.specs.chart_nodes.Circles.{parts_of}
use Rattle.chart_compile.proofs.chart_numbers.order.ordered.Goals as goal

pub unreachable-requires : goal.unreachable-requires
unreachable-requires c =
    let circle = subst (λ (o : Option (Vec ℕ)). Orders (parts_of (map step_view c.args.steps.now)) o) c.in-None.is c.in_ok-order.ensures in
    c.requires circle.0 circle.1
