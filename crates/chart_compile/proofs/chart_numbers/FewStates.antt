-- A valid chart has no more states than its graphs have together.
use Rattle.std.proofs.Common.{◌≡◌, inl, inr, ℕ, ◌≤◌, true, List, [], ◌∷◌, length, map, refl, subst, arith, Option, Some, None}
use Rattle.std.specs.List.{flat_map, list_any, sum_by}
use Rattle.std.specs.Option.{option_map_or}
use Rattle.std.proofs.lemmas.List.{length-append, length-map}
use Rattle.std.proofs.lemmas.List.Sums.{sum_by-cons}
use Rattle.std.proofs.lemmas.Map.Made.{length-le_from_is_member}
use Rattle.name_tables.specs.name_numbers.Names.{same}
use Rattle.chart_model.specs.Chart.{Path, State, Graph, Chart}
use Rattle.chart_model.specs.Named.{graph_at, same_path}
use Rattle.chart_model.specs.Valid.{IsValid}
use Rattle.chart_reader.specs.Whole.{IsWhole, count_of_states}
use Rattle.chart_reader.proofs.chart_nodes.Members.{In, In_any, any_In}
use Rattle.chart_compile.specs.chart_places.Places.{PlaceTree, places_of, state_key}
use Rattle.chart_compile.proofs.chart_compiled.States.{place_is}
use Rattle.chart_compile.proofs.chart_numbers.Counting.{In-map, In_whole}
use Rattle.chart_reader.proofs.NestedGraphs.{In-first}
use Rattle.chart_compile.proofs.chart_numbers.Distinct.{key_of, states_distinct}
use Rattle.chart_compile.proofs.chart_numbers.Ordering.{same_laws}
use Rattle.chart_compile.proofs.chart_places.PlaceLaws.{owner_is}

-- the keys of the states that stand in a graph
abbrev keys_in : Graph → List (List ℕ)
keys_in g = map (λ (s : State). state_key (s.name ∷ g.owner)) g.states

keys_size : (graphs : List Graph) → length (flat_map keys_in graphs) ≡ sum_by (λ (g : Graph). length g.states) graphs
keys_size [] = refl
keys_size (g ∷ graphs) =
    let parts = length-append (keys_in g) (flat_map keys_in graphs) in
    let here = length-map g.states (λ (s : State). state_key (s.name ∷ g.owner)) in
    let total = sum_by-cons (λ (g : Graph). length g.states) g graphs in
    omega (arith, parts, here, total, keys_size graphs)

-- the key of a state in the graph at a path is among those of all graphs
key_at : (chart : Chart) (owner : Path) (s : State) (o : Option Graph) → graph_at chart owner ≡ o → In (option_map_or (λ (g : Graph). g.states) o []) s → In (flat_map keys_in chart.graphs) (state_key (s.name ∷ owner))
key_at chart owner s None at h = absurd h
key_at chart owner s (Some g) at h =
    let inside : In chart.graphs g = In-first (λ (g : Graph). same_path g.owner owner) chart.graphs g at in
    let there : In (keys_in g) (state_key (s.name ∷ g.owner)) = In-map (λ (s : State). state_key (s.name ∷ g.owner)) g.states s h in
    subst (λ (path : Path). In (flat_map keys_in chart.graphs) (state_key (s.name ∷ path))) (owner_is chart owner g at) (In_whole keys_in chart.graphs g (state_key (s.name ∷ g.owner)) inside there)

key_there : (chart : Chart) (p : PlaceTree) → In (places_of chart) p → In (flat_map keys_in chart.graphs) (key_of p)
key_there chart p h =
    let r = place_is chart p h in
    subst (λ (q : PlaceTree). In (flat_map keys_in chart.graphs) (key_of q)) r.3 (key_at chart r.0 r.1 (graph_at chart r.0) refl r.2)

of_place : (places : List PlaceTree) (key : List ℕ) → In (map key_of places) key → (p : PlaceTree) × In places p × (key_of p ≡ key)
of_place [] key h = absurd h
of_place (p ∷ places) key (inl e) = (p, inl refl, e)
of_place (p ∷ places) key (inr h) = let r = of_place places key h in (r.0, inr r.1, r.2)

count_places : (chart : Chart) → IsValid chart → length (places_of chart) ≤ count_of_states chart
count_places chart valid =
    let keys = map key_of (places_of chart) in
    let bound : length keys ≤ length (flat_map keys_in chart.graphs) = length-le_from_is_member same_laws keys (flat_map keys_in chart.graphs) (states_distinct chart valid) member in
    omega (arith, bound, length-map (places_of chart) key_of, keys_size chart.graphs)
  where
    member : (q : List ℕ) → list_any (same q) (map key_of (places_of chart)) ≡ true → list_any (same q) (flat_map keys_in chart.graphs) ≡ true
    member q e =
        let k = any_In (same q) (map key_of (places_of chart)) e in
        let r = of_place (places_of chart) k.0 k.1 in
        In_any (same q) (flat_map keys_in chart.graphs) k.0 (subst (In (flat_map keys_in chart.graphs)) r.2 (key_there chart r.0 r.1)) k.2

pub few_places : (chart : Chart) → IsWhole chart → length (places_of chart) ≤ 65535
few_places chart whole = omega (arith, count_places chart whole.valid, whole.few)
