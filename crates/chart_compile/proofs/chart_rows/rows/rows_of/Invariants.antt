use Rattle.std.proofs.Common.{map, take}
use Rattle.chart_model.specs.chart_plan.Same.{Each}
use Rattle.chart_reader.specs.chart_nodes.Steps.{step_view}
use Rattle.chart_compile.specs.chart_places.Places.{place_view}
use Rattle.chart_compile.specs.chart_parts.Parts.{IsRow}
use Rattle.chart_compile.proofs.chart_rows.rows.rows_of.Given as goal

abbrev pub invariant-loop-place : goal.invariant-loop-place
invariant-loop-place l = Each (IsRow l.states l.graphs l.nodes (map step_view l.steps)) l.rows.items (map place_view (take l.place-index l.places))
