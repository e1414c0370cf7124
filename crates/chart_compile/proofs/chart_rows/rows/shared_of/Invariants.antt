use Rattle.std.proofs.Common.{map, take}
use Rattle.chart_model.specs.chart_plan.Same.{Each}
use Rattle.chart_reader.specs.chart_nodes.Steps.{step_view}
use Rattle.chart_compile.specs.chart_parts.Parts.{IsShared}
use Rattle.chart_compile.proofs.chart_rows.rows.shared_of.Given as goal

abbrev pub invariant-loop-key : goal.invariant-loop-key
invariant-loop-key l = Each (IsShared l.nodes (map step_view l.steps)) l.shared.items (take l.key-index l.keys)
