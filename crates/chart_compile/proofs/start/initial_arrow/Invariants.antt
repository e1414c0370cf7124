use Rattle.std.proofs.Common.{◌≡◌, [], ◌∷◌, map, take}
use Rattle.chart_reader.specs.chart_nodes.Keys.{codes}
use Rattle.chart_reader.specs.chart_nodes.Steps.{step_view}
use Rattle.chart_compile.specs.chart_parts.Parts.{from_key}
use Rattle.chart_compile.proofs.start.initial_arrow.Given as goal

-- no step so far begins at the top
abbrev pub invariant-loop-step : goal.invariant-loop-step
invariant-loop-step l = from_key (0 ∷ codes []) (map step_view (take l.step-index l.steps)) ≡ []
