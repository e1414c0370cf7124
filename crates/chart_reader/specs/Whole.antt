-- Charts whose graphs are those of their states, of which there are few.
use Rattle.std.specs.Prelude.{◌≡◌, ◌≤◌, ◌∷◌, true, Some, ℕ, length}
use Rattle.std.specs.List.{sum_by}
use Rattle.chart_model.specs.Chart.{Name, Path, Graph, Chart}
use Rattle.chart_model.specs.Named.{graph_at}
use Rattle.chart_model.specs.Valid.{IsValid, has_state}

-- The graph at a path, but for the top one, is that of a state of the graph outside it.
abbrev pub AreOfStates : Chart → Type 0
AreOfStates chart =
    (s : Name) (owner : Path) (g : Graph) → graph_at chart (s ∷ owner) ≡ Some g
    → (outside : Graph) × (graph_at chart owner ≡ Some outside) × (has_state outside s ≡ true)

-- How many states the graphs of a chart have together.
abbrev pub count_of_states : Chart → ℕ
count_of_states chart = sum_by (λ (g : Graph). length g.states) chart.graphs

-- A chart as a text without a fault writes it in a model that keeps all rules; its states have numbers of 16 bits.
pub record IsWhole (chart : Chart) : Type 0 where
  pub valid : IsValid chart
  pub graphs : AreOfStates chart
  pub few : count_of_states chart ≤ 65535
