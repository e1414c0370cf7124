use Rattle.std.proofs.Common.{◌≡◌, true, List, ℕ, map, subst, sym, take}
use Rattle.name_tables.specs.name_numbers.Names.{is_among}
use Rattle.chart_model.specs.chart_plan.Same.{Each}
use Rattle.chart_reader.specs.chart_nodes.Steps.{StepTree, step_view}
use Rattle.chart_compile.specs.chart_places.Groups.{picked}
use Rattle.chart_compile.specs.chart_parts.Nodes.{IsNode}
use Rattle.chart_compile.proofs.chart_numbers.Known.{among_picked}
use Rattle.chart_compile.proofs.chart_rows.Listing.{each_start_plain, picked_next, taken_all}
use Rattle.chart_compile.proofs.nodes.nodes_of.Goals as goal

pub loop-number-init : goal.loop-number-init
loop-number-init c = each_start_plain (IsNode c.args.states.now c.args.nodes.now (map step_view c.args.steps.now)) c.new-made.result.items c.new-made.ensures.items

pub add_node-requires-clause-known : goal.add_node-requires-clause-known
add_node-requires-clause-known c =
    let steps = map step_view c.args.steps.now in
    λ s at. subst (λ (keys : List (List ℕ)). is_among keys s.target ≡ true) (sym c.requires.numbered) (among_picked steps c.args.targets.now c.loop-number.number-index s c.loop-number-test.true at)

pub loop-number-preserved : goal.loop-number-preserved
loop-number-preserved c =
    let steps = map step_view c.args.steps.now in
    let targets = c.args.targets.now in
    let i = c.loop-number.number-index in
    subst (λ (l : List StepTree). Each (IsNode c.args.states.now c.args.nodes.now steps) c.add_node.new.made.items l) (sym (picked_next steps targets i c.loop-number-test.true)) (c.in_ok-add_node.ensures (picked steps (take i targets)) c.loop-number.invariant)

pub returns : goal.returns
returns c =
    let steps = map step_view c.args.steps.now in
    subst (λ (l : List ℕ). Each (IsNode c.args.states.now c.args.nodes.now steps) c.loop-number.made.items (picked steps l)) (taken_all c.args.targets.now c.loop-number.number-index c.loop-number-test.false) c.loop-number.invariant
