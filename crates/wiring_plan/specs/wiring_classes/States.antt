-- The texts of a chart's states, in the order of their numbers.
use Rattle.std.specs.Prelude.{ℕ, ◌-◌, nat_lt, if◌then◌else◌, List, [], ◌∷◌, ◌++◌, map}
use Rattle.std.specs.Option.{option_map_or}
use Rattle.room_ast.specs.ChartTree.{GraphItemTree, AState, AChoice, APoint, ATransition, ARefinement, StateTree, StateOf, BodyTree, no_body, body, SubgraphTree, no_subgraph, subgraph, GraphItems, no_items, item}
use Rattle.room_ast.specs.Trees.{ActorTree}
use Rattle.room_ast.specs.model_parts.Charts.{chart_of}
use Rattle.wiring_plan.specs.wiring_classes.Labels.{label_of}

-- The states of a graph, each before those of its own graph, in order of declaration: what stands before their names, and their names. What stands before the names in a state's graph is the state's text and `.`. Graphs are looked into as deep as the number says.
abbrev mutual
  pub states_of_item : ℕ → List ℕ → GraphItemTree → List (List ℕ)
  states_of_item left prefix (AState s) = states_of_state left prefix s
  states_of_item left prefix (AChoice c) = []
  states_of_item left prefix (APoint p) = []
  states_of_item left prefix (ATransition t) = []
  states_of_item left prefix (ARefinement path change) = []

  pub states_of_state : ℕ → List ℕ → StateTree → List (List ℕ)
  states_of_state left prefix (StateOf name b) = (prefix ++ name) ∷ states_of_body left (prefix ++ name) b

  pub states_of_body : ℕ → List ℕ → BodyTree → List (List ℕ)
  states_of_body left text no_body = []
  states_of_body left text (body entry exit sub) = states_of_subgraph left text sub

  pub states_of_subgraph : ℕ → List ℕ → SubgraphTree → List (List ℕ)
  states_of_subgraph left text no_subgraph = []
  states_of_subgraph left text (subgraph items) = if nat_lt 0 left then states_of_graph (left - 1) (text ++ 46 ∷ []) items else []

  pub states_of_graph : ℕ → List ℕ → GraphItems → List (List ℕ)
  states_of_graph left prefix no_items = []
  states_of_graph left prefix (item i is) = states_of_item left prefix i ++ states_of_graph left prefix is

-- The states of the graph of the state with this text.
abbrev pub states_below : ℕ → List ℕ → GraphItems → List (List ℕ)
states_below left text items = states_of_subgraph left text (subgraph items)

-- How deep graphs are looked into below the top graph: in a chart without a fault states nest 16 deep at most.
abbrev pub graphs_below : ℕ
graphs_below = 15

-- The texts of the states of a class, by number; none where it has no chart. In a chart whose states nest deeper than 16, which has a fault, those deeper ones have none.
unfoldable pub state_labels : ActorTree → List (List ℕ)
state_labels a = map label_of (option_map_or (states_of_graph graphs_below []) (chart_of a) [])
