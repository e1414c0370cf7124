-- The number of a chart's states, and how deep they nest.
use Rattle.std.specs.Prelude.{ℕ, ◌+◌, max, Option}
use Rattle.std.specs.Option.{option_map_or, option_and_then}
use Rattle.room_ast.specs.ChartTree.{GraphItemTree, AState, AChoice, APoint, ATransition, ARefinement, StateTree, StateOf, BodyTree, no_body, body, SubgraphTree, no_subgraph, subgraph, GraphItems, no_items, item}
use Rattle.room_ast.specs.Trees.{ActorTree, BehaviorTree}

-- How many states stand in a graph, those of the graphs of its states counted too. A refinement counts for nothing, as it
-- does wherever a chart is spoken of: a chart that is put together from its class's bases has none.
abbrev mutual
  pub states_in_item : GraphItemTree → ℕ
  states_in_item (AState s) = states_at s
  states_in_item (AChoice c) = 0
  states_in_item (APoint p) = 0
  states_in_item (ATransition t) = 0
  states_in_item (ARefinement path change) = 0

  pub states_at : StateTree → ℕ
  states_at (StateOf name b) = 1 + states_in_body b

  pub states_in_body : BodyTree → ℕ
  states_in_body no_body = 0
  states_in_body (body entry exit sub) = states_in_subgraph sub

  pub states_in_subgraph : SubgraphTree → ℕ
  states_in_subgraph no_subgraph = 0
  states_in_subgraph (subgraph items) = states_in items

  pub states_in : GraphItems → ℕ
  states_in no_items = 0
  states_in (item i is) = states_in_item i + states_in is

-- How deep the states of a graph nest: 1 where none of them has states inside.
abbrev mutual
  pub depth_of_item : GraphItemTree → ℕ
  depth_of_item (AState s) = depth_at s
  depth_of_item (AChoice c) = 0
  depth_of_item (APoint p) = 0
  depth_of_item (ATransition t) = 0
  depth_of_item (ARefinement path change) = 0

  pub depth_at : StateTree → ℕ
  depth_at (StateOf name b) = 1 + depth_of_body b

  pub depth_of_body : BodyTree → ℕ
  depth_of_body no_body = 0
  depth_of_body (body entry exit sub) = depth_of_subgraph sub

  pub depth_of_subgraph : SubgraphTree → ℕ
  depth_of_subgraph no_subgraph = 0
  depth_of_subgraph (subgraph items) = depth_of items

  pub depth_of : GraphItems → ℕ
  depth_of no_items = 0
  depth_of (item i is) = max (depth_of_item i) (depth_of is)

-- The chart of a class, if it has one.
abbrev pub chart_of : ActorTree → Option GraphItems
chart_of a = option_and_then (λ (b : BehaviorTree). b.machine) a.behavior

-- How many states the chart of a class has; none where it has no chart.
abbrev pub state_count : ActorTree → ℕ
state_count a = option_map_or states_in (chart_of a) 0
