-- The names of the states of the graphs that a text writes.
use Rattle.std.proofs.Common.{◌≡◌, ◌∙◌, ℕ, true, false, List, [], ◌∷◌, ◌++◌, append_assoc, map, Some, None, refl, sym, ap, subst}
use Rattle.std.specs.List.{list_all, IsDistinct, AllByRecursion}
use Rattle.std.proofs.lemmas.Bool.{and_parts}
use Rattle.std.proofs.lemmas.List.{map-append, append-nil}
use Rattle.room_ast.specs.ChartTree.{GraphItemTree, AState, AChoice, APoint, ATransition, ARefinement, StateTree, StateOf, BodyTree, no_body, body, SubgraphTree, no_subgraph, subgraph, GraphItems, no_items, item}
use Rattle.room_ast.specs.declared.scope.Scope.{Scope}
use Rattle.name_tables.specs.name_numbers.Names.{same, AreDistinct}
use Rattle.name_tables.specs.distinct_names.Distinct.{is_distinct}
use Rattle.name_tables.proofs.distinct_names.Laws.{fact_of}
use Rattle.chart_model.specs.Chart.{Name, Path, State, Point, Graph, Chart}
use Rattle.chart_model.specs.Valid.{names_in}
use Rattle.chart_reader.specs.chart_rules.Rules.{graph_has_right_names, has_right_names}
use Rattle.chart_trees.specs.Around.{Around, around, list_of}
use Rattle.chart_trees.specs.Reading.{Piece, begun, graphs_of, state_of, with_actions, with_item, with_state, with_body, with_subgraph, with_items, piece_of, at_first, chart_of}
use Rattle.law_models.specs.wiring_laws.state_names.States.{name_of_item, names_here}
use Rattle.law_models.specs.wiring_laws.read_wirings.Differ.{ItemDiffers, StateDiffers, BodyDiffers, SubgraphDiffers, ItemsDiffer, ChartDiffers}

-- the names of states
abbrev named : List State → List Name
named xs = map (λ (s : State). s.name) xs

-- the states of a graph have different names
abbrev Good : Graph → Type 0
Good g = AreDistinct (named g.states)

abbrev GoodAll : List Graph → Type 0
GoodAll gs = AllByRecursion Good gs

all_both : {A : Type 0} (P : A → Type 0) (xs ys : List A) → AllByRecursion P (xs ++ ys) → AllByRecursion P xs × AllByRecursion P ys
all_both P [] ys h = (tt, h)
all_both P (x ∷ xs) ys h = let both = all_both P xs ys h.1 in ((h.0, both.0), both.1)

left_part : (xs ys : List (List ℕ)) → AreDistinct (xs ++ ys) → AreDistinct xs
unfolding IsDistinct
left_part [] ys h = tt
left_part (x ∷ xs) ys h = ((all_both (λ y. same x y ≡ false) xs ys h.0).0, left_part xs ys h.1)

module _ (scope : Scope) where
  -- ---- the states that are read

  subgraph_states : (sub : SubgraphTree) (owner : Path) (p : Piece) → (with_subgraph scope sub owner p).states ≡ p.states
  subgraph_states no_subgraph owner p = refl
  subgraph_states (subgraph is) owner p = refl

  body_states : (b : BodyTree) (n : Name) (owner : Path) (p : Piece) → named (with_body scope b n owner p).states ≡ named p.states ++ n ∷ []
  body_states no_body n owner p = map-append (λ (s : State). s.name) p.states (state_of scope p.come n None None ∷ [])
  body_states (body entry exit sub) n owner p = ap named (subgraph_states sub (n ∷ owner) (with_actions scope n entry exit p)) ∙ map-append (λ (s : State). s.name) p.states (state_of scope p.come n entry exit ∷ [])

  item_states : (i : GraphItemTree) (a : Around) (owner : Path) (p : Piece) (rest : List Name) → named (with_item scope i a owner p).states ++ rest ≡ named p.states ++ name_of_item i rest
  item_states (AState (StateOf n b)) a owner p rest = ap (λ xs. xs ++ rest) (body_states b n owner p) ∙ append_assoc (named p.states) (n ∷ []) rest
  item_states (AChoice c) a owner p rest = refl
  item_states (APoint q) a owner p rest = refl
  item_states (ATransition t) a owner p rest = refl
  item_states (ARefinement path change) a owner p rest = refl

  items_states : (is : GraphItems) (a : Around) (owner : Path) (p : Piece) → named (with_items scope is a owner p).states ≡ named p.states ++ names_here is
  items_states no_items a owner p = sym (append-nil (named p.states))
  items_states (item i is) a owner p = items_states is a owner (with_item scope i a owner p) ∙ item_states i a owner p (names_here is)

  -- ---- the graphs that are read

  mutual
    item_differs : (i : GraphItemTree) (a : Around) (owner : Path) (p : Piece) → GoodAll (with_item scope i a owner p).inner → GoodAll p.inner × ItemDiffers i
    item_differs (AState s) a owner p h = state_differs s owner p h
    item_differs (AChoice c) a owner p h = (h, tt)
    item_differs (APoint q) a owner p h = (h, tt)
    item_differs (ATransition t) a owner p h = (h, tt)
    item_differs (ARefinement path change) a owner p h = (h, tt)

    state_differs : (s : StateTree) (owner : Path) (p : Piece) → GoodAll (with_state scope s owner p).inner → GoodAll p.inner × StateDiffers s
    state_differs (StateOf n b) owner p h = body_differs b n owner p h

    body_differs : (b : BodyTree) (n : Name) (owner : Path) (p : Piece) → GoodAll (with_body scope b n owner p).inner → GoodAll p.inner × BodyDiffers b
    body_differs no_body n owner p h = (h, tt)
    body_differs (body entry exit sub) n owner p h = subgraph_differs sub (n ∷ owner) (with_actions scope n entry exit p) h

    subgraph_differs : (sub : SubgraphTree) (owner : Path) (p : Piece) → GoodAll (with_subgraph scope sub owner p).inner → GoodAll p.inner × SubgraphDiffers sub
    subgraph_differs no_subgraph owner p h = (h, tt)
    subgraph_differs (subgraph is) owner p h =
        let q = with_items scope is (around (list_of is)) owner (begun p.come) in
        let both = all_both Good p.inner (graphs_of owner q) h in
        (both.0, (subst AreDistinct (items_states is (around (list_of is)) owner (begun p.come)) both.1.0, (items_differ is (around (list_of is)) owner (begun p.come) both.1.1).1))

    items_differ : (is : GraphItems) (a : Around) (owner : Path) (p : Piece) → GoodAll (with_items scope is a owner p).inner → GoodAll p.inner × ItemsDiffer is
    items_differ no_items a owner p h = (h, tt)
    items_differ (item i is) a owner p h =
        let later = items_differ is a owner (with_item scope i a owner p) h in
        let here = item_differs i a owner p later.0 in
        (here.0, (here.1, later.1))

  graphs_good : (chart : Chart) (gs : List Graph) → list_all (graph_has_right_names chart) gs ≡ true → GoodAll gs
  graphs_good chart [] h = tt
  graphs_good chart (g ∷ gs) h =
      let parts = and_parts (graph_has_right_names chart g) (list_all (graph_has_right_names chart) gs) h in
      let names = and_parts (is_distinct (names_in g)) _ parts.0 in
      (left_part (named g.states) (map (λ (p : Point). p.name) g.points) (fact_of (names_in g) names.0), graphs_good chart gs parts.1)

  -- where the names of a chart are right, the states of each graph have different names
  pub chart_differs : (names : List Name) (is : GraphItems) → has_right_names (chart_of scope names is) ≡ true → ChartDiffers (Some is)
  unfolding chart_of has_right_names
  chart_differs names is h =
      let good = graphs_good (chart_of scope names is) (graphs_of [] (piece_of scope is [] (at_first names))) h in
      (subst AreDistinct (items_states is (around (list_of is)) [] (begun (at_first names))) good.0, (items_differ is (around (list_of is)) [] (begun (at_first names)) good.1).1)
