use Rattle.std.proofs.Common.{◌≡◌, map, take}
use Rattle.name_tables.specs.name_numbers.Names.{names_of}
use Rattle.chart_reader.specs.chart_nodes.Steps.{step_view}
use Rattle.chart_reader.specs.chart_nodes.Circles.{targets_of}
use Rattle.chart_compile.specs.chart_places.Groups.{picked}
use Rattle.chart_compile.proofs.chart_numbers.order.target_keys.Given as goal

abbrev pub invariant-loop-number : goal.invariant-loop-number
invariant-loop-number l = names_of l.keys.items ≡ targets_of (picked (map step_view l.steps) (take l.number-index l.targets))
