use Rattle.std.proofs.Common.{◌∙◌, map}
use Rattle.chart_reader.specs.chart_nodes.Steps.{step_view}
use Rattle.chart_compile.specs.chart_numbers.Order.{numbering}
use Rattle.chart_compile.proofs.chart_numbers.Ordering.{first_as, found_step, no_step, with_later, with_next, with_none}
use Rattle.chart_compile.proofs.chart_numbers.order.add_step.Goals as goal

pub returns-in_default : goal.returns-in_default
returns-in_default c =
    with_none (map step_view c.args.steps.now) c.args.step (numbering c.args.keys.now c.args.targets.now.items) (no_step step_view c.args.steps.now c.args.step c.step_at.result c.step_at.ensures c.in_default.is)

pub returns-in_ok-add_node : goal.returns-in_ok-add_node
returns-in_ok-add_node c =
    let steps = map step_view c.args.steps.now in
    let s = c.in-Some.leading in
    let key = c.as_slice-key.result.now in
    with_next steps c.args.step (numbering c.args.keys.now c.args.targets.now.items) (numbering c.add_node.new.keys c.add_node.new.targets.items) (step_view s.now) key (found_step step_view c.args.steps.now c.args.step c.step_at.result s c.step_at.ensures c.in-Some.is)
    (first_as steps c.args.first.now c.args.step key (step_view s.now).target c.is_first.result c.requires c.as_slice-key.ensures.value c.is_first.ensures ∙ c.if-is_first.true) c.as_slice-key.ensures.value c.in_ok-add_node.ensures

pub returns-else-is_first : goal.returns-else-is_first
returns-else-is_first c =
    let steps = map step_view c.args.steps.now in
    let s = c.in-Some.leading in
    with_later steps c.args.step (numbering c.args.keys.now c.args.targets.now.items) (step_view s.now) (found_step step_view c.args.steps.now c.args.step c.step_at.result s c.step_at.ensures c.in-Some.is)
    (first_as steps c.args.first.now c.args.step c.as_slice-key.result.now (step_view s.now).target c.is_first.result c.requires c.as_slice-key.ensures.value c.is_first.ensures ∙ c.if-is_first.false)
