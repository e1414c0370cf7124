use Rattle.std.proofs.Common.{◌≡◌, [], map, take}
use Rattle.std.specs.List.{filter}
use Rattle.chart_reader.specs.chart_nodes.Steps.{step_view}
use Rattle.chart_compile.specs.chart_places.Groups.{picked}
use Rattle.chart_compile.specs.chart_parts.Nodes.{has_none}
use Rattle.chart_compile.proofs.chart_kinds.default_of.Given as goal

-- no branch so far is without a condition
abbrev pub invariant-loop-number : goal.invariant-loop-number
invariant-loop-number l = filter has_none (picked (map step_view l.steps) (take l.number-index l.group)) ≡ []
