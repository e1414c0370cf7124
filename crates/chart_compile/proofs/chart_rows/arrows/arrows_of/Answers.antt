use Rattle.std.proofs.Common.{ℕ, List, map, take, sym, subst}
use Rattle.chart_reader.specs.chart_nodes.Steps.{StepTree, step_view}
use Rattle.chart_compile.specs.chart_places.Groups.{picked}
use Rattle.chart_model.specs.chart_plan.Same.{Each}
use Rattle.chart_run.specs.chart_tables.Tables.{arrow_view, arrow_views}
use Rattle.chart_compile.specs.chart_parts.Parts.{IsArrow}
use Rattle.chart_compile.proofs.chart_rows.Listing.{each_start, picked_next, taken_all}
use Rattle.chart_compile.proofs.chart_rows.arrows.arrows_of.Goals as goal

pub loop-number-init : goal.loop-number-init
loop-number-init c = each_start (IsArrow c.args.nodes.now) arrow_view c.new-arrows.result.items c.new-arrows.ensures.items

pub loop-number-preserved : goal.loop-number-preserved
loop-number-preserved c =
    let steps = map step_view c.args.steps.now in
    let group = c.args.group.now in
    let i = c.loop-number.number-index in
    subst (λ (l : List StepTree). Each (IsArrow c.args.nodes.now) (arrow_views c.add_arrow.new.arrows.items) l) (sym (picked_next steps group i c.loop-number-test.true)) (c.in_ok-add_arrow.ensures (picked steps (take i group)) c.loop-number.invariant)

pub returns : goal.returns
returns c =
    subst (λ (g : List ℕ). Each (IsArrow c.args.nodes.now) (arrow_views c.loop-number.arrows.items) (picked (map step_view c.args.steps.now) g)) (taken_all c.args.group.now c.loop-number.number-index c.loop-number-test.false) c.loop-number.invariant
