use Rattle.std.proofs.Common.{map, take}
use Rattle.std.specs.List.{filter}
use Rattle.chart_model.specs.chart_plan.Same.{Each}
use Rattle.chart_run.specs.chart_tables.Tables.{arrow_views}
use Rattle.chart_reader.specs.chart_nodes.Steps.{step_view}
use Rattle.chart_compile.specs.chart_places.Groups.{picked}
use Rattle.chart_compile.specs.chart_parts.Parts.{IsArrow}
use Rattle.chart_compile.specs.chart_parts.Nodes.{has_condition}
use Rattle.chart_compile.proofs.chart_kinds.branches_of.Given as goal

abbrev pub invariant-loop-number : goal.invariant-loop-number
invariant-loop-number l = Each (IsArrow l.nodes) (arrow_views l.branches.items) (filter has_condition (picked (map step_view l.steps) (take l.number-index l.group)))
