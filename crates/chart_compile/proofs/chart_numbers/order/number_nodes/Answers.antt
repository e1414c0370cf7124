use Rattle.std.proofs.Common.{◌∙◌, List, ℕ, ap, map, subst, sym}
use Rattle.chart_reader.specs.chart_nodes.Steps.{step_view}
use Rattle.chart_reader.specs.chart_nodes.Circles.{targets_of}
use Rattle.chart_compile.specs.chart_places.Groups.{picked}
use Rattle.chart_compile.specs.chart_numbers.Order.{AllNumbered, AreNumbered, numbered}
use Rattle.chart_compile.proofs.chart_numbers.Ordering.{all_in_order, in_order}
use Rattle.chart_compile.proofs.chart_numbers.order.number_nodes.Goals as goal

pub returns-clause-numbered : goal.returns-clause-numbered
returns-clause-numbered c =
    let steps = map step_view c.args.steps.now in
    let targets = c.in_ok-targets.targets.items in
    let order : AreNumbered steps c.add_steps.new.keys targets =
    in_order steps c.in_ok-order.order.items targets c.add_steps.new.keys c.in_ok-order.ensures (c.in_ok-targets.ensures ∙ ap (numbered steps) c.as_slice.ensures.value) in
    subst (λ (k : List (List ℕ)). AreNumbered steps k targets)
    (order.named ∙ sym (c.in_ok-keys.ensures ∙ ap (λ (l : List ℕ). targets_of (picked steps l)) c.as_slice-2.ensures.value)) order

pub returns-clause-all : goal.returns-clause-all
returns-clause-all c =
    let steps = map step_view c.args.steps.now in
    let targets = c.in_ok-targets.targets.items in
    let made = c.in_ok-targets.ensures ∙ ap (numbered steps) c.as_slice.ensures.value in
    let order : AreNumbered steps c.add_steps.new.keys targets = in_order steps c.in_ok-order.order.items targets c.add_steps.new.keys c.in_ok-order.ensures made in
    subst (AllNumbered steps) (order.named ∙ sym (c.in_ok-keys.ensures ∙ ap (λ (l : List ℕ). targets_of (picked steps l)) c.as_slice-2.ensures.value)) (all_in_order steps c.in_ok-order.order.items targets c.add_steps.new.keys c.in_ok-order.ensures made)
