-- The programs of a chart that a text writes send at priorities 1 to 5 alone.
use Rattle.std.proofs.Common.{List, [], ◌∷◌, Option, None}
use Rattle.std.specs.List.{AllByRecursion as Each}
use Rattle.room_ast.specs.declared.chart.Code.{Code}
use Rattle.room_ast.specs.declared.chart.Transition.{Transition as TransitionTree}
use Rattle.room_ast.specs.declared.scope.Scope.{Scope}
use Rattle.room_ast.specs.ChartTree.{GraphItemTree, AState, AChoice, APoint, ATransition, ARefinement, StateTree, StateOf, BodyTree, no_body, body, SubgraphTree, no_subgraph, subgraph, GraphItems, no_items, item}
use Rattle.chart_model.specs.Chart.{Name, Path, Transition, State, Graph, Chart}
use Rattle.law_models.specs.settled_models.Open.{is_worded}
use Rattle.chart_behaviour.specs.chart_asks.Asking.{ProgramAsks}
use Rattle.chart_trees.specs.Around.{Around, around, list_of}
use Rattle.chart_trees.specs.Reading.{before_action, transition_of, state_of, Piece, begun, graphs_of, with_actions, with_transition, with_inner, action_in, with_item, with_state, with_body, with_subgraph, with_items, at_first, chart_of}
use Rattle.chart_trees.specs.chart_codes.Progress.{Progress, after_action}
use Rattle.law_models.proofs.settled_models.Programs.{action_worded}
use Rattle.law_models.proofs.class_laws.Charts.{each_both}

abbrev pub StateWorded : State → Type 0
StateWorded s = ProgramAsks is_worded s.entry × ProgramAsks is_worded s.exit

abbrev pub TransitionWorded : Transition → Type 0
TransitionWorded t = ProgramAsks is_worded t.action

abbrev pub GraphWorded : Graph → Type 0
GraphWorded g = Each StateWorded g.states × Each TransitionWorded g.transitions

-- no program of the chart sends at the system level
abbrev pub ChartWorded : Chart → Type 0
ChartWorded c = Each GraphWorded c.graphs

record PieceWorded (p : Piece) : Type 0 where
  states : Each StateWorded p.states
  transitions : Each TransitionWorded p.transitions
  inner : Each GraphWorded p.inner

begun_worded : (come : Progress) → PieceWorded (begun come)
begun_worded come = record { states = tt; transitions = tt; inner = tt }

module _ (scope : Scope) where
  actions_worded : (n : Name) (entry exit : Option Code) (p : Piece) → PieceWorded p → PieceWorded (with_actions scope n entry exit p)
  actions_worded n entry exit p h = record {
    states = each_both StateWorded p.states (state_of scope p.come n entry exit ∷ []) h.states ((action_worded scope p.come.names entry, action_worded scope (after_action scope p.come entry).names exit), tt);
    transitions = h.transitions;
    inner = h.inner;
  }

  transition_worded : (a : Around) (t : TransitionTree) (p : Piece) → PieceWorded p → PieceWorded (with_transition scope a t p)
  transition_worded a t p h = record {
    states = h.states;
    transitions = each_both TransitionWorded p.transitions (transition_of scope a p.come t ∷ []) h.transitions (action_worded scope (before_action scope p.come t.body).names (action_in t.body), tt);
    inner = h.inner;
  }

  inner_worded : (owner : Path) (q p : Piece) → PieceWorded q → PieceWorded p → PieceWorded (with_inner owner q p)
  inner_worded owner q p g h = record {
    states = h.states;
    transitions = h.transitions;
    inner = each_both GraphWorded p.inner (graphs_of owner q) h.inner ((g.states, g.transitions), g.inner);
  }

  mutual
    item_worded : (i : GraphItemTree) (a : Around) (owner : Path) (p : Piece) → PieceWorded p → PieceWorded (with_item scope i a owner p)
    item_worded (AState s) a owner p h = state_worded s owner p h
    item_worded (AChoice c) a owner p h = record { states = h.states; transitions = h.transitions; inner = h.inner }
    item_worded (APoint q) a owner p h = record { states = h.states; transitions = h.transitions; inner = h.inner }
    item_worded (ATransition t) a owner p h = transition_worded a t p h
    item_worded (ARefinement path change) a owner p h = h

    state_worded : (s : StateTree) (owner : Path) (p : Piece) → PieceWorded p → PieceWorded (with_state scope s owner p)
    state_worded (StateOf n b) owner p h = body_worded b n owner p h

    body_worded : (b : BodyTree) (n : Name) (owner : Path) (p : Piece) → PieceWorded p → PieceWorded (with_body scope b n owner p)
    body_worded no_body n owner p h = actions_worded n None None p h
    body_worded (body entry exit sub) n owner p h = subgraph_worded sub (n ∷ owner) (with_actions scope n entry exit p) (actions_worded n entry exit p h)

    subgraph_worded : (s : SubgraphTree) (owner : Path) (p : Piece) → PieceWorded p → PieceWorded (with_subgraph scope s owner p)
    subgraph_worded no_subgraph owner p h = h
    subgraph_worded (subgraph is) owner p h = inner_worded owner (with_items scope is (around (list_of is)) owner (begun p.come)) p (items_worded is (around (list_of is)) owner (begun p.come) (begun_worded p.come)) h

    items_worded : (is : GraphItems) (a : Around) (owner : Path) (p : Piece) → PieceWorded p → PieceWorded (with_items scope is a owner p)
    items_worded no_items a owner p h = h
    items_worded (item i is) a owner p h = items_worded is a owner (with_item scope i a owner p) (item_worded i a owner p h)

  pub chart_worded : (names : List Name) (is : GraphItems) → ChartWorded (chart_of scope names is)
  unfolding chart_of
  chart_worded names is =
      let all = items_worded is (around (list_of is)) [] (begun (at_first names)) (begun_worded (at_first names)) in
      ((all.states, all.transitions), all.inner)
