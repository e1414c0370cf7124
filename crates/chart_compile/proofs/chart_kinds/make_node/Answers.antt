use Rattle.std.proofs.Common.{◌∷◌, ap, arith, length, map, subst, sym}
use Rattle.chart_model.specs.chart_plan.Same.{SameKind}
use Rattle.chart_model.specs.Chart.{Path}
use Rattle.chart_model.specs.Named.{node_of}
use Rattle.chart_trees.specs.chart_graphs.Views.{target_view}
use Rattle.chart_trees.specs.declared.chart_graphs.Target.{Target}
use Rattle.chart_run.specs.chart_tables.Tables.{kind}
use Rattle.chart_reader.specs.chart_nodes.Steps.{step_view}
use Rattle.chart_compile.specs.chart_places.Groups.{picked}
use Rattle.chart_compile.specs.chart_parts.Parts.{IsArrow, IsState}
use Rattle.chart_compile.specs.chart_parts.Nodes.{GoesOn, kind_by}
use Rattle.chart_compile.proofs.chart_kinds.make_node.Goals as goal

pub choice-requires-clause-default : goal.choice-requires-clause-default
choice-requires-clause-default c =
    let owner = c.args.step.now.graph.now.owner in
    let steps = picked (map step_view c.args.steps.now) c.args.group.now in
    subst (λ (t : Target). GoesOn c.args.states.now (node_of owner (target_view t)) steps) c.in-Choice.is c.requires.goes_on

pub unreachable-requires : goal.unreachable-requires
unreachable-requires c =
    let owner = c.args.step.now.graph.now.owner in
    let steps = picked (map step_view c.args.steps.now) c.args.group.now in
    let some = subst (λ (t : Target). GoesOn c.args.states.now (node_of owner (target_view t)) steps) c.in-Exit.is c.requires.goes_on in
    omega (arith, some.0, ap length c.as_slice-owner.ensures, c.in_default.ensures.cases)

pub returns-in_ok-node-in-Choice : goal.returns-in_ok-node-in-Choice
returns-in_ok-node-in-Choice c =
    let owner = c.args.step.now.graph.now.owner in
    let steps = picked (map step_view c.args.steps.now) c.args.group.now in
    subst (λ (t : Target). SameKind (IsState c.args.states.now) (IsArrow c.args.nodes.now) (kind c.in_ok-node-in-Choice.node) (kind_by (node_of owner (target_view t)) steps)) (sym c.in-Choice.is) (c.in_ok-node-in-Choice.ensures c.args.states.now owner c.in-Choice.field-0)

pub returns-in_ok-node-in-Entry : goal.returns-in_ok-node-in-Entry
returns-in_ok-node-in-Entry c =
    let owner = c.args.step.now.graph.now.owner in
    let steps = picked (map step_view c.args.steps.now) c.args.group.now in
    let number = subst (λ (o : Path). IsState c.args.states.now c.in_ok-state-in-Entry.state (c.in-Entry.state ∷ o)) c.as_slice-owner.ensures c.in_ok-state-in-Entry.ensures in
    subst (λ (t : Target). SameKind (IsState c.args.states.now) (IsArrow c.args.nodes.now) (kind c.in_ok-node-in-Entry.node) (kind_by (node_of owner (target_view t)) steps)) (sym c.in-Entry.is) (c.in_ok-node-in-Entry.ensures c.args.states.now (c.in-Entry.state ∷ owner) c.in-Entry.point number)
