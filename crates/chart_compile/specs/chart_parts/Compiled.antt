-- Tables that are compiled from a chart.
use Rattle.std.specs.Prelude.{◌≡◌, ◌<◌, ℕ, true, List, [], ◌∷◌, Some, length, slice_get}
use Rattle.std.specs.Option.{option_map_or}
use Rattle.chart_model.specs.chart_plan.Plan.{Kind, Simple}
use Rattle.chart_model.specs.chart_plan.Same.{Each}
use Rattle.chart_model.specs.Chart.{Chart}
use Rattle.chart_model.specs.Named.{Placed, from, is_initial}
use Rattle.chart_model.specs.States.{states_of}
use Rattle.chart_run.specs.chart_tables.Tables.{ArrowTree, arrow_view, kind, IsSound}
use Rattle.chart_run.specs.declared.chart_tables.tables.Node.{Node as CodeNode}
use Rattle.chart_run.specs.declared.chart_tables.tables.Tables.{Tables}
use Rattle.chart_run.specs.ByName.{Names, Shows, IsTransition}
use Rattle.chart_reader.specs.chart_nodes.Keys.{codes}
use Rattle.chart_reader.specs.chart_nodes.Steps.{StepTree}
use Rattle.chart_compile.specs.chart_places.Places.{PlaceTree}
use Rattle.chart_compile.specs.chart_parts.Parts.{IsRow, IsShared, from_key}
use Rattle.chart_compile.specs.chart_parts.Nodes.{IsFirst, IsNode, leads_lower}

-- what tables have at the number of a node
abbrev pub node_kind : List CodeNode → ℕ → Kind ℕ ArrowTree
node_kind nodes n = option_map_or kind (slice_get nodes n) (Simple 0)

-- the tables of steps, by the keys of states, graphs and nodes; the states have these places, and the nodes are those after these targets
pub record IsAssembled (states graphs nodes : List (List ℕ)) (steps : List StepTree) (places : List PlaceTree) (targets : List StepTree) (count : ℕ) (v : Tables) : Type 0 where
  pub rows : Each (IsRow states graphs nodes steps) v.states.items places
  pub shared : Each (IsShared nodes steps) v.graphs.items graphs
  pub made : List CodeNode
  pub nodes_are : Each (IsNode states nodes steps) made targets
  pub padded : (n : ℕ) → node_kind v.nodes.items n ≡ node_kind made n
  pub lower : (n : ℕ) → leads_lower n (node_kind v.nodes.items n) ≡ true
  pub size : length v.nodes.items ≡ count
  pub first : IsFirst nodes (Some v.initial) (from_key (0 ∷ codes []) steps)

-- The tables are those of a chart: they show it, and what they stand for. The states have the numbers of the chart.
pub record Compiles (v : Tables) (chart : Chart) : Type 0 where
  pub sound : IsSound v
  pub names : Names
  pub shows : Shows v names chart
  pub count : length v.states.items ≡ length (states_of chart)
  pub paths : (s : ℕ) → s < length v.states.items → slice_get (states_of chart) s ≡ Some (names.paths s)
  pub start : Placed
  pub starts : (others : List Placed) × (from is_initial chart [] ≡ start ∷ others)
  pub initial : IsTransition names (arrow_view v.initial) start
  pub values : v.values.items ≡ chart.values
