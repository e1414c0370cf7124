use Rattle.std.proofs.Common.{ℕ, List, [], length, map, replicate}
use Rattle.chart_reader.specs.chart_nodes.Steps.{step_view}
use Rattle.chart_reader.specs.chart_nodes.Circles.{targets_of}
use Rattle.chart_reader.proofs.chart_nodes.Linking.{linked_more, length-linked_by}
use Rattle.chart_reader.proofs.chart_nodes.circles.parts_of.Goals as goal

pub loop-step-preserved : goal.loop-step-preserved
loop-step-preserved c =
    let steps = c.args.steps.now in
    let none : List (List ℕ) = replicate (length steps) [] in
    let s = c.step-item.result in
    let rows = c.loop-step.parts.items in
    let new = c.link.new.parts.items in
    (linked_more step_view (targets_of (map step_view steps)) c.in_ok-nodes.nodes none rows new steps c.loop-step.step-index s c.loop-step-test.true c.step-item.is c.in_ok-nodes.ensures c.loop-step.invariant.0 c.in_ok-link.ensures, length-linked_by c.in_ok-nodes.nodes rows new (step_view s) (length steps) c.loop-step.invariant.1 c.in_ok-link.ensures)
