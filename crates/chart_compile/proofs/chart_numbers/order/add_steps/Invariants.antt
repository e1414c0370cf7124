use Rattle.std.proofs.Common.{◌≡◌, map, take}
use Rattle.chart_reader.specs.chart_nodes.Steps.{step_view}
use Rattle.chart_compile.specs.chart_numbers.Order.{numbered, numbering}
use Rattle.chart_compile.proofs.chart_numbers.order.add_steps.Given as goal

abbrev pub invariant-loop-step : goal.invariant-loop-step
invariant-loop-step l = numbering l.keys l.targets.items ≡ numbered (map step_view l.steps) (take l.step-index l.order)
