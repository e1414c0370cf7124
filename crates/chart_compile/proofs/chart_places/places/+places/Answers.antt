use Rattle.std.proofs.Common.{◌≤◌, ◌-◌, Bor, List, Option, length, ◌∙◌, ◌∷◌, ◌++◌, ap, map, refl, subst, sym}
use Rattle.std.proofs.lemmas.List.{append-nil}
use Rattle.chart_trees.specs.chart_graphs.Views.{chart_view, graph_view, state_view}
use Rattle.chart_trees.specs.declared.chart_graphs.Graph.{Graph as CodeGraph}
use Rattle.chart_trees.specs.declared.chart_graphs.State.{State as CodeState}
use Rattle.chart_model.specs.Chart.{State}
use Rattle.chart_compile.specs.chart_places.Places.{FoundAt, place_of, place_view, places_below}
use Rattle.chart_compile.proofs.chart_places.PlaceLaws.{below_some, below_zero, parts_done, pushed_place, state_none, state_some}
use Rattle.chart_compile.proofs.chart_places.places.+places.Goals as goal

pub add_state-returns-in_ok-add_states-in-Some : goal.add_state-returns-in_ok-add_states-in-Some
add_state-returns-in_ok-add_states-in-Some t c =
    let owner = c.args.graph.now.owner in
    let s = state_view c.args.state.now in
    let found = subst (λ (o : Option (Bor CodeGraph)). FoundAt (chart_view c.args.chart.now) (s.name ∷ owner) o) c.in-Some.is c.in_ok-inner.ensures in
    state_some (chart_view c.args.chart.now) c.args.depth c.in-Some.inner.now.owner (s.name ∷ owner) (map place_view c.args.places.now.items) (map place_view c.push.new.self.items) _ (place_of owner s) (pushed_place c.args.places.now.items c.push.new.self.items (record { graph = c.args.graph; state = c.args.state }) (place_of owner s) c.in_ok-push.ensures.items refl) found.1 c.in_ok-add_states-in-Some.ensures

pub add_state-returns-in-None : goal.add_state-returns-in-None
add_state-returns-in-None t c =
    let owner = c.args.graph.now.owner in
    let s = state_view c.args.state.now in
    state_none (chart_view c.args.chart.now) c.args.depth (s.name ∷ owner) (map place_view c.args.places.now.items) (map place_view c.push.new.self.items) (place_of owner s) (pushed_place c.args.places.now.items c.push.new.self.items (record { graph = c.args.graph; state = c.args.state }) (place_of owner s) c.in_ok-push.ensures.items refl) (subst (λ (o : Option (Bor CodeGraph)). FoundAt (chart_view c.args.chart.now) (s.name ∷ owner) o) c.in-None.is c.in_ok-inner.ensures)

pub add_states-returns-then-depth-eq0 : goal.add_states-returns-then-depth-eq0
add_states-returns-then-depth-eq0 t c = sym (append-nil (map place_view c.args.places.now.items)) ∙ ap (λ l. map place_view c.args.places.now.items ++ l) (sym (below_zero (chart_view c.args.chart.now) c.args.depth c.args.graph.now.owner c.if-depth-eq0.true))

pub add_states-returns : goal.add_states-returns
add_states-returns t c =
    let chart = chart_view c.args.chart.now in
    let owner = c.args.graph.now.owner in
    let states = c.args.graph.now.states.items in
    let f = λ (s : State). place_of owner s ∷ places_below chart (c.args.depth - 1) (s.name ∷ owner) in
    parts_done f state_view (map place_view c.loop-state.places.items) _ states c.loop-state.state-index (subst (λ (l : List CodeState). length l ≤ c.loop-state.state-index) c.deref-state-items.ensures.value c.loop-state-test.false) c.loop-state.invariant ∙ ap (λ l. map place_view c.args.places.now.items ++ l) (sym (below_some chart c.args.depth owner (graph_view c.args.graph.now) c.if-depth-eq0.false c.requires.there))
