-- The states of a chart with their paths, in the order of their numbers.
use Rattle.std.specs.Prelude.{◌≡◌, ℕ, zero, suc, List, [], ◌∷◌, Option, Some, None, length, map}
use Rattle.std.specs.Borrow.{Bor}
use Rattle.std.specs.List.{flat_map}
use Rattle.std.specs.Option.{option_map_or}
use Rattle.chart_model.specs.Chart.{Path, State, Graph, Chart}
use Rattle.chart_model.specs.Named.{graph_at}
use Rattle.chart_trees.specs.chart_graphs.Views.{graph_view, state_view}
use Rattle.chart_trees.specs.declared.chart_graphs.Graph.{Graph as CodeGraph}
use Rattle.chart_reader.specs.chart_nodes.Keys.{codes}
use Rattle.chart_compile.specs.declared.chart_places.places.Place.{Place}

-- the place where transitions from a state begin
abbrev pub state_key : Path → List ℕ
state_key path = 1 ∷ codes path

-- the place where transitions from the transition points of a graph begin
abbrev pub shared_key : Path → List ℕ
shared_key path = 2 ∷ codes path

-- the keys of graphs
abbrev pub keys_of : List Graph → List (List ℕ)
keys_of graphs = map (λ (g : Graph). shared_key g.owner) graphs

-- a state with its path
pub record PlaceTree : Type 0 where
  pub path : Path
  pub state : State

abbrev pub place_of : Path → State → PlaceTree
place_of owner s = record { path = s.name ∷ owner; state = s }

-- the states in the graph at a path
abbrev pub states_at : Chart → Path → List State
states_at chart owner = option_map_or (λ (g : Graph). g.states) (graph_at chart owner) []

-- the states in the graph at a path, at most n graphs deep: in order of declaration, each before those of its own graph
unfoldable pub places_below : Chart → ℕ → Path → List PlaceTree
places_below chart zero owner = []
places_below chart (suc n) owner = flat_map (λ (s : State). place_of owner s ∷ places_below chart n (s.name ∷ owner)) (states_at chart owner)

-- all states; a state's number is its place here
abbrev pub places_of : Chart → List PlaceTree
places_of chart = places_below chart (length chart.graphs) []

-- a place as the code has it
abbrev pub place_view : Place → PlaceTree
place_view p = record { path = p.state.now.name ∷ p.graph.now.owner; state = state_view p.state.now }

-- what was found is the graph at a path, if there is one
abbrev pub FoundAt : Chart → Path → Option (Bor CodeGraph) → Type 0
FoundAt chart path None = graph_at chart path ≡ None
FoundAt chart path (Some g) = (graph_at chart g.now.owner ≡ Some (graph_view g.now)) × (g.now.owner ≡ path)
