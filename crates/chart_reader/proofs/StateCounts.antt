-- The graphs of a chart that is read have together as many states as its text.
use Rattle.std.proofs.Common.{◌≡◌, ℕ, ◌+◌, List, [], ◌∷◌, length, Option, None, arith}
use Rattle.std.specs.List.{sum_by}
use Rattle.std.proofs.lemmas.List.{length-append}
use Rattle.std.proofs.lemmas.List.Sums.{sum_by-append, sum_by-cons}
use Rattle.room_ast.specs.declared.chart.Code.{Code}
use Rattle.room_ast.specs.declared.scope.Scope.{Scope}
use Rattle.room_ast.specs.ChartTree.{GraphItemTree, AState, AChoice, APoint, ATransition, ARefinement, StateOf, BodyTree, no_body, body, no_subgraph, subgraph, GraphItems, no_items, item}
use Rattle.room_ast.specs.model_parts.Charts.{states_in_item, states_in_body, states_in}
use Rattle.chart_model.specs.Chart.{Name, Path, Graph}
use Rattle.chart_trees.specs.Around.{Around, around, list_of}
use Rattle.chart_trees.specs.Reading.{Piece, begun, graphs_of, state_of, with_actions, with_item, with_body, with_items, piece_of, at_first, chart_of}
use Rattle.chart_reader.specs.Whole.{count_of_states}

abbrev size : Graph → ℕ
size g = length g.states

-- how many states were read
abbrev held : Piece → ℕ
held p = length p.states + sum_by size p.inner

-- a graph and those of its states have the states that were read
graphs_hold : (owner : Path) (p : Piece) → sum_by size (graphs_of owner p) ≡ held p
graphs_hold owner p = sum_by-cons size (record { owner = owner; states = p.states; points = p.points; choices = p.choices; transitions = p.transitions }) p.inner

-- a state more
one_more : (scope : Scope) (n : Name) (entry exit : Option Code) (p : Piece) → length (with_actions scope n entry exit p).states ≡ length p.states + 1
one_more scope n entry exit p = length-append p.states (state_of scope p.come n entry exit ∷ [])

mutual
  item_counted : (i : GraphItemTree) (scope : Scope) (a : Around) (owner : Path) (p : Piece) → held (with_item scope i a owner p) ≡ held p + states_in_item i
  item_counted (AState (StateOf n b)) scope a owner p = let here = body_counted b scope n owner p in omega (arith, here)
  item_counted (AChoice c) scope a owner p = omega arith
  item_counted (APoint q) scope a owner p = omega arith
  item_counted (ATransition t) scope a owner p = omega arith
  item_counted (ARefinement path change) scope a owner p = omega arith

  body_counted : (b : BodyTree) (scope : Scope) (n : Name) (owner : Path) (p : Piece) → held (with_body scope b n owner p) ≡ held p + (1 + states_in_body b)
  body_counted no_body scope n owner p = omega (arith, one_more scope n None None p)
  body_counted (body entry exit no_subgraph) scope n owner p = omega (arith, one_more scope n entry exit p)
  body_counted (body entry exit (subgraph is)) scope n owner p =
      let come = (with_actions scope n entry exit p).come in
      let q = with_items scope is (around (list_of is)) (n ∷ owner) (begun come) in
      let inside : held q ≡ 0 + states_in is = items_counted is scope (around (list_of is)) (n ∷ owner) (begun come) in
      let parts = sum_by-append size p.inner (graphs_of (n ∷ owner) q) in
      let graph = graphs_hold (n ∷ owner) q in
      omega (arith, one_more scope n entry exit p, inside, parts, graph)

  items_counted : (is : GraphItems) (scope : Scope) (a : Around) (owner : Path) (p : Piece) → held (with_items scope is a owner p) ≡ held p + states_in is
  items_counted no_items scope a owner p = omega arith
  items_counted (item i is) scope a owner p =
      let here = item_counted i scope a owner p in
      let later = items_counted is scope a owner (with_item scope i a owner p) in
      omega (arith, here, later)

pub states_counted : (scope : Scope) (names : List Name) (is : GraphItems) → count_of_states (chart_of scope names is) ≡ states_in is
unfolding chart_of
states_counted scope names is =
    let read : held (piece_of scope is [] (at_first names)) ≡ 0 + states_in is = items_counted is scope (around (list_of is)) [] (begun (at_first names)) in
    let graph = graphs_hold [] (piece_of scope is [] (at_first names)) in
    omega (arith, read, graph)
