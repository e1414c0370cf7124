use Rattle.std.proofs.Common.{◌≡◌, ◌+◌, ◌*◌, ◌-◌, ◌++◌, ◌∷◌, map, drop}
use Rattle.std.specs.List.{flat_map}
use Rattle.chart_trees.specs.chart_graphs.Views.{chart_view, state_view}
use Rattle.chart_model.specs.Chart.{State}
use Rattle.chart_compile.specs.chart_places.Places.{place_of, place_view, places_below}
use Rattle.chart_compile.proofs.chart_places.places.+places.Given as goal

abbrev pub decreases-add_state : goal.decreases-add_state
decreases-add_state l = 2 * l.depth + 1

abbrev pub decreases-add_states : goal.decreases-add_states
decreases-add_states l = 2 * l.depth

-- the rest completes what was added
abbrev pub invariant-add_states-loop-state : goal.invariant-add_states-loop-state
invariant-add_states-loop-state l =
    map place_view l.places.items ++ flat_map (λ (s : State). place_of l.graph.owner s ∷ places_below (chart_view l.chart) (l.depth - 1) (s.name ∷ l.graph.owner)) (map state_view (drop l.state-index l.graph.states.items))
    ≡ map place_view l.fn.places.items ++ flat_map (λ (s : State). place_of l.graph.owner s ∷ places_below (chart_view l.chart) (l.depth - 1) (s.name ∷ l.graph.owner)) (map state_view l.graph.states.items)
