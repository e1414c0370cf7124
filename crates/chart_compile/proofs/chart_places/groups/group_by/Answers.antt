use Rattle.std.proofs.Common.{ℕ, List, [], ◌∙◌, ap, length, map, replicate}
use Rattle.std.proofs.lemmas.List.{length-replicate}
use Rattle.chart_reader.specs.chart_nodes.Steps.{StepTree, step_view}
use Rattle.chart_compile.proofs.chart_places.GroupLaws.{length-put_number, none_put, put_more}
use Rattle.chart_compile.proofs.chart_places.groups.group_by.Goals as goal

pub loop-i-init : goal.loop-i-init
loop-i-init c =
    let none : List ℕ = [] in
    (none_put (map step_view c.args.steps.now) c.in_ok-groups.groups.items c.args.count (length c.args.places.now) c.in_ok-groups.ensures c.requires, ap length c.in_ok-groups.ensures ∙ length-replicate c.args.count none ∙ c.requires)

pub loop-i-preserved : goal.loop-i-preserved
loop-i-preserved c =
    let keys = c.args.places.now in
    let none : List (List StepTree) = replicate (length keys) [] in
    let old = c.loop-i.groups.items in
    let new = c.put.new.groups.items in
    let s = c.index-steps-i.result in
    (put_more step_view keys none old new c.args.steps.now c.loop-i.i s c.loop-i-test.true c.index-steps-i.is c.loop-i.invariant.0 c.in_ok-put.ensures, length-put_number keys (step_view s) c.loop-i.i old new (length keys) c.loop-i.invariant.1 c.in_ok-put.ensures)
