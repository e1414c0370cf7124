use Rattle.std.proofs.Common.{ℕ, List, map, take, sym, subst}
use Rattle.chart_reader.specs.chart_nodes.Steps.{StepTree, step_view}
use Rattle.chart_compile.specs.chart_places.Groups.{picked}
use Rattle.std.specs.List.{filter}
use Rattle.chart_model.specs.chart_plan.Same.{Each}
use Rattle.chart_run.specs.chart_tables.Tables.{arrow_view, arrow_views}
use Rattle.chart_compile.specs.chart_parts.Parts.{IsArrow}
use Rattle.chart_compile.specs.chart_parts.Nodes.{has_condition}
use Rattle.chart_compile.proofs.chart_rows.Listing.{each_start, picked_next, taken_all}
use Rattle.chart_compile.proofs.chart_kinds.branches_of.Goals as goal

pub loop-number-init : goal.loop-number-init
loop-number-init c = each_start (IsArrow c.args.nodes.now) arrow_view c.new-branches.result.items c.new-branches.ensures.items

pub loop-number-preserved : goal.loop-number-preserved
loop-number-preserved c =
    let steps = map step_view c.args.steps.now in
    let group = c.args.group.now in
    let i = c.loop-number.number-index in
    subst (λ (l : List StepTree). Each (IsArrow c.args.nodes.now) (arrow_views c.add_branch.new.branches.items) (filter has_condition l)) (sym (picked_next steps group i c.loop-number-test.true)) (c.in_ok-add_branch.ensures (picked steps (take i group)) c.loop-number.invariant)

pub returns : goal.returns
returns c =
    subst (λ (g : List ℕ). Each (IsArrow c.args.nodes.now) (arrow_views c.loop-number.branches.items) (filter has_condition (picked (map step_view c.args.steps.now) g))) (taken_all c.args.group.now c.loop-number.number-index c.loop-number-test.false) c.loop-number.invariant
