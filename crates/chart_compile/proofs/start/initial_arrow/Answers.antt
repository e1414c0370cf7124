use Rattle.std.proofs.Common.{◌∙◌, ◌∷◌, [], ap, sym}
use Rattle.name_tables.specs.name_numbers.Names.{same}
use Rattle.chart_reader.specs.chart_nodes.Keys.{codes}
use Rattle.chart_reader.specs.chart_nodes.Steps.{step_view}
use Rattle.chart_compile.proofs.chart_numbers.Known.{view_at}
use Rattle.chart_compile.proofs.Making.{first_there, none_left, still_none}
use Rattle.chart_compile.proofs.start.initial_arrow.Goals as goal

pub returns-then-begins_at : goal.returns-then-begins_at
returns-then-begins_at c =
    let s = c.step-item.result in
    let key = c.as_slice.ensures.value ∙ c.in_ok-key.ensures in
    first_there step_view c.args.nodes.now (0 ∷ codes []) c.args.steps.now c.loop-step.step-index s c.in_ok-arrow.arrow c.loop-step-test.true c.step-item.is c.loop-step.invariant (ap (λ k. same (step_view s).origin k) (sym key) ∙ sym c.begins_at.ensures ∙ c.if-begins_at.true) c.in_ok-arrow.ensures

pub loop-step-preserved : goal.loop-step-preserved
loop-step-preserved c =
    let s = c.step-item.result in
    let key = c.as_slice.ensures.value ∙ c.in_ok-key.ensures in
    still_none step_view (0 ∷ codes []) c.args.steps.now c.loop-step.step-index s c.loop-step-test.true c.step-item.is c.loop-step.invariant (ap (λ k. same (step_view s).origin k) (sym key) ∙ sym c.begins_at.ensures ∙ c.if-begins_at.false)

pub unreachable-requires : goal.unreachable-requires
unreachable-requires c = none_left step_view (0 ∷ codes []) c.args.steps.now c.loop-step.step-index c.loop-step-test.false c.loop-step.invariant c.requires.starts

pub make_arrow-requires : goal.make_arrow-requires
make_arrow-requires c =
    let s = c.step-item.result in
    c.requires.lead c.loop-step.step-index (step_view s) (view_at step_view c.args.steps.now c.loop-step.step-index s c.loop-step-test.true c.step-item.is)
