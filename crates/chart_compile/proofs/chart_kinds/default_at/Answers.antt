use Rattle.std.proofs.Common.{◌∙◌, ap, map, not, sym}
use Rattle.std.specs.Prelude.{slice_get}
use Rattle.action_program.specs.Numbered.{expr_view}
use Rattle.chart_reader.specs.chart_nodes.Steps.{step_view}
use Rattle.chart_compile.proofs.chart_kinds.Lines.{default_here, default_missing, default_other, some_view}
use Rattle.chart_compile.proofs.chart_rows.Listing.{step_found, step_missing}
use Rattle.chart_compile.proofs.chart_kinds.default_at.Goals as goal

pub returns-in_default : goal.returns-in_default
returns-in_default c =
    default_missing c.args.nodes.now (slice_get (map step_view c.args.steps.now) c.args.number) (step_missing step_view c.args.steps.now c.args.number c.step_at.result c.step_at.ensures c.in_default.is)

pub returns-then-has : goal.returns-then-has
returns-then-has c =
    let s = c.in-Some.step in
    default_other c.args.nodes.now (slice_get (map step_view c.args.steps.now) c.args.number) (step_view s.now) (step_found step_view c.args.steps.now c.args.number c.step_at.result s c.step_at.ensures c.in-Some.is)
    (ap not (some_view expr_view s.now.transition.now.condition ∙ sym c.is_some-has.ensures ∙ c.if-has.true))

pub returns : goal.returns
returns c =
    let s = c.in-Some.step in
    default_here c.args.nodes.now (slice_get (map step_view c.args.steps.now) c.args.number) (step_view s.now) c.in_ok-arrow.arrow (step_found step_view c.args.steps.now c.args.number c.step_at.result s c.step_at.ensures c.in-Some.is)
    (ap not (some_view expr_view s.now.transition.now.condition ∙ sym c.is_some-has.ensures ∙ c.if-has.false)) c.in_ok-arrow.ensures

pub make_arrow-requires : goal.make_arrow-requires
make_arrow-requires c = c.requires c.args.number (step_view c.in-Some.step.now) (step_found step_view c.args.steps.now c.args.number c.step_at.result c.in-Some.step c.step_at.ensures c.in-Some.is)
