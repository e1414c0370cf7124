use Rattle.std.proofs.Common.{◌≡◌, [], fold, length, map, replicate, take}
use Rattle.chart_reader.specs.chart_nodes.Steps.{step_view}
use Rattle.chart_reader.specs.chart_nodes.Circles.{linked_by, targets_of}
use Rattle.chart_reader.proofs.chart_nodes.circles.parts_of.Given as goal

abbrev pub invariant-loop-step : goal.invariant-loop-step
invariant-loop-step l =
    (l.parts.items ≡ fold (linked_by (targets_of (map step_view l.steps))) (replicate (length l.steps) []) (map step_view (take l.step-index l.steps)))
    × (length l.parts.items ≡ length l.steps)
