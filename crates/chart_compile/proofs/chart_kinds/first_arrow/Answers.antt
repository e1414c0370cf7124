use Rattle.std.proofs.Common.{◌∙◌, map, sym}
use Rattle.chart_reader.specs.chart_nodes.Steps.{step_view}
use Rattle.chart_compile.proofs.chart_kinds.Lines.{group_empty, group_first, group_none}
use Rattle.chart_compile.proofs.chart_kinds.first_arrow.Goals as goal

pub loop-number-preserved : goal.loop-number-preserved
loop-number-preserved c =
    group_none c.args.nodes.now (map step_view c.args.steps.now) c.args.group.now c.loop-number.number-index c.in_ok-arrow.arrow c.loop-number-test.true c.loop-number.invariant (sym c.is_some.ensures ∙ c.if-is_some.false) c.in_ok-arrow.ensures

pub returns-then-is_some : goal.returns-then-is_some
returns-then-is_some c =
    group_first c.args.nodes.now (map step_view c.args.steps.now) c.args.group.now c.loop-number.number-index c.in_ok-arrow.arrow c.loop-number-test.true c.loop-number.invariant (sym c.is_some.ensures ∙ c.if-is_some.true) c.in_ok-arrow.ensures

pub returns : goal.returns
returns c = group_empty c.args.nodes.now (map step_view c.args.steps.now) c.args.group.now c.loop-number.number-index c.loop-number-test.false c.loop-number.invariant
