use Rattle.std.proofs.Common.{◌≡◌, ◌++◌, ◌<◌, ◌∙◌, [], ap, arith, cond, get_or, length, map}
use Rattle.chart_trees.specs.chart_graphs.Views.{graph_view}
use Rattle.chart_reader.specs.chart_nodes.Steps.{steps_in, step_view}
use Rattle.chart_reader.proofs.chart_nodes.StepLaws.{graphs_done, graphs_more, key_at, were_added, were_not}
use Rattle.chart_reader.proofs.chart_nodes.steps.steps_of.Goals as goal
use Rattle.chart_reader.proofs.chart_nodes.steps.steps_of.Goals.{then-branch+in_ok-add_steps, else-branch}

pub returns : goal.returns
returns c = graphs_done (map step_view c.loop-i.steps.items) _ c.loop-i.seen c.args.chart.now.graphs.items c.deref-graph-items.result.now c.loop-i.i c.loop-i-test.false c.deref-graph-items.ensures.value c.loop-i.invariant

pub loop-i-preserved : goal.loop-i-preserved
loop-i-preserved c =
    let out = map step_view c.loop-i.steps.items in
    let gs = c.args.chart.now.graphs.items in
    let g = c.graph-item.result in
    let b = c.in_ok-add.field-0 in
    let own = steps_in (graph_view g) in
    let is : g ≡ get_or gs c.loop-i.i g = c.graph-item.is ∙ ap (λ l. get_or l c.loop-i.i g) c.deref-graph-items.ensures.value in
    let within : c.loop-i.i < length gs = omega (arith, c.loop-i-test.true, ap length c.deref-graph-items.ensures.value) in
    let key = key_at c.in_ok-keys.keys.items gs c.deref.result.now c.loop-i.i c.index.result.now g c.in_ok-keys.ensures c.deref.ensures.value within is c.index.ensures in
    let steps : map step_view c.if-branch.steps.items ≡ out ++ cond b own [] =
    elim c.if-branch.branch [
      | then-branch+in_ok-add_steps w ↦ were_added out (map step_view c.if-branch.steps.items) own b (ap (λ s. map step_view s.items) w.steps-is ∙ w.in_ok-add_steps.ensures) w.if-branch.true
      | else-branch w ↦ were_not out (map step_view c.if-branch.steps.items) own b (ap (λ s. map step_view s.items) w.steps-is) w.if-branch.false
    ]
    in
    graphs_more out (map step_view c.if-branch.steps.items) _ c.loop-i.seen c.add.new.self gs c.loop-i.i g b c.as_slice.result.now within is (c.as_slice.ensures ∙ key) c.in_ok-add.ensures.new c.in_ok-add.ensures.names steps c.loop-i.invariant
