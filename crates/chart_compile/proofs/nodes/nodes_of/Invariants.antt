use Rattle.std.proofs.Common.{map, take}
use Rattle.chart_model.specs.chart_plan.Same.{Each}
use Rattle.chart_reader.specs.chart_nodes.Steps.{step_view}
use Rattle.chart_compile.specs.chart_places.Groups.{picked}
use Rattle.chart_compile.specs.chart_parts.Nodes.{IsNode}
use Rattle.chart_compile.proofs.nodes.nodes_of.Given as goal

abbrev pub invariant-loop-number : goal.invariant-loop-number
invariant-loop-number l = Each (IsNode l.states l.nodes (map step_view l.steps)) l.made.items (picked (map step_view l.steps) (take l.number-index l.targets))
