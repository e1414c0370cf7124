use Rattle.std.proofs.Common.{◌≡◌, [], map, take}
use Rattle.chart_reader.specs.chart_nodes.Steps.{step_view}
use Rattle.chart_compile.specs.chart_places.Groups.{picked}
use Rattle.chart_compile.proofs.chart_kinds.first_arrow.Given as goal

-- there is no step so far
abbrev pub invariant-loop-number : goal.invariant-loop-number
invariant-loop-number l = picked (map step_view l.steps) (take l.number-index l.group) ≡ []
