-- How deep the states of a text nest.
use Rattle.std.specs.Prelude.{ℕ, ◌-◌, ◌&&◌, nat_lt, Bool, true}
use Rattle.room_ast.specs.ChartTree.{GraphItemTree, AState, AChoice, APoint, ATransition, ARefinement, StateTree, StateOf, BodyTree, no_body, body, SubgraphTree, no_subgraph, subgraph, GraphItems, no_items, item}

-- The states of a graph, or a state, and those inside them nest at most so deep.
abbrev mutual
  pub item_nests : GraphItemTree → ℕ → Bool
  item_nests (AState s) most = state_nests s most
  item_nests (AChoice c) most = true
  item_nests (APoint p) most = true
  item_nests (ATransition t) most = true
  item_nests (ARefinement path change) most = true

  pub state_nests : StateTree → ℕ → Bool
  state_nests (StateOf name b) most = nat_lt 0 most && body_nests b (most - 1)

  pub body_nests : BodyTree → ℕ → Bool
  body_nests no_body most = true
  body_nests (body entry exit sub) most = subgraph_nests sub most

  pub subgraph_nests : SubgraphTree → ℕ → Bool
  subgraph_nests no_subgraph most = true
  subgraph_nests (subgraph items) most = graph_nests items most

  pub graph_nests : GraphItems → ℕ → Bool
  graph_nests no_items most = true
  graph_nests (item i is) most = item_nests i most && graph_nests is most
