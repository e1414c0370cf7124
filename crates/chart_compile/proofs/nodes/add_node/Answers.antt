use Rattle.std.proofs.Common.{map}
use Rattle.chart_reader.specs.chart_nodes.Steps.{step_view}
use Rattle.chart_compile.proofs.Making.{node_none, node_some}
use Rattle.chart_compile.proofs.chart_rows.Listing.{step_found, step_missing}
use Rattle.chart_compile.proofs.nodes.add_node.Goals as goal

pub node_after-requires-clause-keyed : goal.node_after-requires-clause-keyed
node_after-requires-clause-keyed c = c.requires.keyed c.args.number (step_view c.in-Some.step.now) (step_found step_view c.args.steps.now c.args.number c.step_at.result c.in-Some.step c.step_at.ensures c.in-Some.is)

pub node_after-requires-clause-goes_on : goal.node_after-requires-clause-goes_on
node_after-requires-clause-goes_on c = c.requires.go_on c.args.number (step_view c.in-Some.step.now) (step_found step_view c.args.steps.now c.args.number c.step_at.result c.in-Some.step c.step_at.ensures c.in-Some.is)

pub node_after-requires-clause-known : goal.node_after-requires-clause-known
node_after-requires-clause-known c = c.requires.known (step_view c.in-Some.step.now) (step_found step_view c.args.steps.now c.args.number c.step_at.result c.in-Some.step c.step_at.ensures c.in-Some.is)

pub returns-in_default : goal.returns-in_default
returns-in_default c =
    node_none c.args.states.now c.args.nodes.now (map step_view c.args.steps.now) c.args.number c.args.made.now.items (step_missing step_view c.args.steps.now c.args.number c.step_at.result c.step_at.ensures c.in_default.is)

pub returns : goal.returns
returns c =
    node_some c.args.states.now c.args.nodes.now (map step_view c.args.steps.now) c.args.number c.args.made.now.items c.push.new.self.items c.in_ok-node.node (step_view c.in-Some.step.now)
    (step_found step_view c.args.steps.now c.args.number c.step_at.result c.in-Some.step c.step_at.ensures c.in-Some.is) c.in_ok-push.ensures.items c.in_ok-node.ensures
