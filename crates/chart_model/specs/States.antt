-- The numbers of a chart's states, and their text.
use Rattle.std.specs.Prelude.{ℕ, zero, suc, List, [], ◌∷◌, Option, length, position, reverse}
use Rattle.std.specs.List.{flat_map, join_with_byte}
use Rattle.std.specs.Option.{option_map_or}
use Rattle.chart_model.specs.Chart.{Path, State, Graph, Chart}
use Rattle.chart_model.specs.Named.{graph_at, same_path}

-- the states in the graph at a path, at most n graphs deep: in order of declaration, each before those of its own graph
unfoldable pub states_below : Chart → ℕ → Path → List Path
states_below chart zero owner = []
states_below chart (suc n) owner =
    flat_map (λ (s : State). (s.name ∷ owner) ∷ states_below chart n (s.name ∷ owner)) (option_map_or (λ (g : Graph). g.states) (graph_at chart owner) [])

-- all states; a state's number is its place here
unfoldable pub states_of : Chart → List Path
states_of chart = states_below chart (length chart.graphs) []

-- the number of the state at a path; an active path has the number of its last state
abbrev pub state_number : Chart → Path → Option ℕ
state_number chart path = position (same_path path) (states_of chart)

-- a path as it is printed: its names from the outermost on, joined by `.`
abbrev pub state_label : Path → List ℕ
state_label path = join_with_byte 46 (reverse path)
