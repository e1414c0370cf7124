use Rattle.std.proofs.Common.{List, ◌≡◌, ◌≤◌, ◌∙◌, ap, arith, length, map, refl, sum, sym}
use Rattle.chart_model.specs.Named.{nodes_in}
use Rattle.chart_trees.specs.chart_graphs.Views.{chart_view, graph_view}
use Rattle.chart_trees.specs.declared.chart_graphs.Graph.{Graph as CodeGraph}
use Rattle.chart_reader.specs.chart_nodes.Steps.{step_view}
use Rattle.chart_compile.specs.chart_places.Places.{keys_of, place_view, places_of}
use Rattle.chart_compile.specs.declared.chart_places.places.Place.{Place}
use Rattle.chart_compile.specs.chart_parts.Parts.{key_of}
use Rattle.chart_compile.proofs.chart_numbers.Distinct.{states_distinct_as}
use Rattle.chart_compile.proofs.chart_numbers.FewStates.{few_places}
use Rattle.chart_compile.proofs.chart_numbers.Reaching.{are_placed, state_numbered}
use Rattle.chart_compile.proofs.Going.{go_on}
use Rattle.chart_compile.proofs.Making.{are_keyed, enough, no_circle, starts, tables_of}
use Rattle.chart_compile.proofs.tables.compile.Goals as goal

pub assemble-requires-clause-states_are : goal.assemble-requires-clause-states_are
assemble-requires-clause-states_are c =
    c.in_ok-states.ensures ∙ c.as_slice-3.ensures.value ∙ c.in_ok-state_keys.ensures ∙ ap (λ (l : List Place). map key_of (map place_view l)) (c.as_slice-2.ensures.value ∙ sym c.as_slice-6.ensures.value)

pub assemble-requires-clause-keyed : goal.assemble-requires-clause-keyed
assemble-requires-clause-keyed c = are_keyed (chart_view c.args.chart.now) (map step_view c.as_slice-5.result.now) (ap (map step_view) c.as_slice-5.ensures.value ∙ c.in_ok-steps.ensures)

pub assemble-requires-clause-go_on : goal.assemble-requires-clause-go_on
assemble-requires-clause-go_on c =
    let chart = chart_view c.args.chart.now in
    let places = map place_view c.as_slice-6.result.now in
    let are_places : places ≡ places_of chart = ap (map place_view) c.as_slice-6.ensures.value ∙ c.in_ok-places.ensures in
    let are_states : c.in_ok-states.states ≡ map key_of places =
    c.in_ok-states.ensures ∙ c.as_slice-3.ensures.value ∙ c.in_ok-state_keys.ensures ∙ ap (λ (l : List Place). map key_of (map place_view l)) (c.as_slice-2.ensures.value ∙ sym c.as_slice-6.ensures.value)
    in
    let few : length places ≤ 65535 = omega (arith, few_places chart c.requires, ap length are_places) in
    let are_graphs : c.in_ok-graphs.graphs ≡ keys_of chart.graphs = c.in_ok-graphs.ensures ∙ c.as_slice.ensures.value ∙ c.in_ok-graph_keys.ensures ∙ ap (λ (l : List CodeGraph). keys_of (map graph_view l)) c.deref.ensures.value in
    go_on chart (map step_view c.as_slice-5.result.now) c.in_ok-states.states c.requires (ap (map step_view) c.as_slice-5.ensures.value ∙ c.in_ok-steps.ensures) (state_numbered chart places c.in_ok-states.states c.in_ok-graphs.graphs are_places are_states are_graphs few)

pub assemble-requires-clause-placed : goal.assemble-requires-clause-placed
assemble-requires-clause-placed c =
    let chart = chart_view c.args.chart.now in
    let places = map place_view c.as_slice-6.result.now in
    let are_places : places ≡ places_of chart = ap (map place_view) c.as_slice-6.ensures.value ∙ c.in_ok-places.ensures in
    let are_states : c.in_ok-states.states ≡ map key_of places =
    c.in_ok-states.ensures ∙ c.as_slice-3.ensures.value ∙ c.in_ok-state_keys.ensures ∙ ap (λ (l : List Place). map key_of (map place_view l)) (c.as_slice-2.ensures.value ∙ sym c.as_slice-6.ensures.value)
    in
    let few : length places ≤ 65535 = omega (arith, few_places chart c.requires, ap length are_places) in
    let are_graphs : c.in_ok-graphs.graphs ≡ keys_of chart.graphs = c.in_ok-graphs.ensures ∙ c.as_slice.ensures.value ∙ c.in_ok-graph_keys.ensures ∙ ap (λ (l : List CodeGraph). keys_of (map graph_view l)) c.deref.ensures.value in
    are_placed chart places c.in_ok-states.states c.in_ok-graphs.graphs are_places are_states are_graphs few

pub assemble-requires-clause-no_circle : goal.assemble-requires-clause-no_circle
assemble-requires-clause-no_circle c = no_circle (chart_view c.args.chart.now) (map step_view c.as_slice-5.result.now) c.requires.valid (ap (map step_view) c.as_slice-5.ensures.value ∙ c.in_ok-steps.ensures)

pub assemble-requires-clause-enough : goal.assemble-requires-clause-enough
assemble-requires-clause-enough c =
    enough (chart_view c.args.chart.now) (map step_view c.as_slice-5.result.now) (sum (map nodes_in (map graph_view c.args.chart.now.graphs.items))) c.requires.valid (ap (map step_view) c.as_slice-5.ensures.value ∙ c.in_ok-steps.ensures)
    refl

pub assemble-requires-clause-starts : goal.assemble-requires-clause-starts
assemble-requires-clause-starts c = starts (chart_view c.args.chart.now) (map step_view c.as_slice-5.result.now) c.requires.valid (ap (map step_view) c.as_slice-5.ensures.value ∙ c.in_ok-steps.ensures)

pub returns : goal.returns
returns c =
    let chart = chart_view c.args.chart.now in
    let places = map place_view c.as_slice-6.result.now in
    let are_places : places ≡ places_of chart = ap (map place_view) c.as_slice-6.ensures.value ∙ c.in_ok-places.ensures in
    let are_states : c.in_ok-states.states ≡ map key_of places =
    c.in_ok-states.ensures ∙ c.as_slice-3.ensures.value ∙ c.in_ok-state_keys.ensures ∙ ap (λ (l : List Place). map key_of (map place_view l)) (c.as_slice-2.ensures.value ∙ sym c.as_slice-6.ensures.value)
    in
    let few : length places ≤ 65535 = omega (arith, few_places chart c.requires, ap length are_places) in
    tables_of chart c.in_ok-tables.tables (map step_view c.as_slice-5.result.now) places c.in_ok-states.states c.in_ok-graphs.graphs (sum (map nodes_in (map graph_view c.args.chart.now.graphs.items))) c.requires.valid (ap (map step_view) c.as_slice-5.ensures.value ∙ c.in_ok-steps.ensures) are_places are_states
    (c.in_ok-graphs.ensures ∙ c.as_slice.ensures.value ∙ c.in_ok-graph_keys.ensures ∙ ap (λ (l : List CodeGraph). keys_of (map graph_view l)) c.deref.ensures.value) refl
    c.in_ok-tables.ensures.tables (states_distinct_as chart places c.in_ok-states.states c.requires.valid are_places are_states) few c.in_ok-tables.ensures.values
