use Rattle.std.proofs.Common.{◌∙◌, List, ap, map, subst, sym}
use Rattle.chart_model.specs.chart_plan.Same.{SameKind}
use Rattle.chart_run.specs.chart_tables.Tables.{kind}
use Rattle.chart_reader.specs.chart_nodes.Steps.{StepTree, step_view}
use Rattle.chart_compile.specs.chart_parts.Parts.{IsArrow, IsState, from_key}
use Rattle.chart_compile.specs.chart_parts.Nodes.{GoesOn, kind_by, node_after}
use Rattle.chart_compile.proofs.nodes.node_after.Goals as goal

pub steps_at-group-requires-clause-grouped : goal.steps_at-group-requires-clause-grouped
steps_at-group-requires-clause-grouped c = (map step_view c.args.steps.now, c.requires.grouped)

pub make_node-requires-clause-goes_on : goal.make_node-requires-clause-goes_on
make_node-requires-clause-goes_on c =
    let steps = map step_view c.args.steps.now in
    let s = step_view c.args.step.now in
    subst (λ (l : List StepTree). GoesOn c.args.states.now (node_after s) l) (sym (c.steps_at-group.ensures steps c.requires.grouped ∙ ap (λ k. from_key k steps) (c.as_slice.ensures.value ∙ c.requires.keyed))) c.requires.goes_on

pub returns : goal.returns
returns c =
    let steps = map step_view c.args.steps.now in
    let s = step_view c.args.step.now in
    subst (λ (l : List StepTree). SameKind (IsState c.args.states.now) (IsArrow c.args.nodes.now) (kind c.in_ok-node.node) (kind_by (node_after s) l))
    (c.steps_at-group.ensures steps c.requires.grouped ∙ ap (λ k. from_key k steps) (c.as_slice.ensures.value ∙ c.requires.keyed)) c.in_ok-node.ensures
