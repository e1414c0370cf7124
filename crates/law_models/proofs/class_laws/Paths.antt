-- The states of a text's chart are found where the text has them.
use Rattle.std.proofs.Common.{◌≡◌, ◌∙◌, ℕ, zero, suc, ◌+◌, ◌≤◌, true, false, List, [], ◌∷◌, ◌++◌, append_assoc, append-nil, length, length-append, map, Option, Some, None, refl, sym, ap, subst, arith}
use Rattle.std.specs.List.{AllByRecursion as Each, IsDistinct, flat_map}
use Rattle.std.specs.Option.{option_map_or}
use Rattle.std.proofs.lemmas.List.{map-append}
use lib.Pointwise.{bytes_decides}
use Rattle.room_ast.specs.declared.scope.Scope.{Scope}
use Rattle.room_ast.specs.ChartTree.{GraphItemTree, AState, AChoice, APoint, ATransition, ARefinement, StateTree, StateOf, BodyTree, no_body, body, SubgraphTree, no_subgraph, subgraph, GraphItems, no_items, item}
use Rattle.name_tables.specs.name_numbers.Names.{same, AreDistinct}
use Rattle.chart_model.specs.Chart.{Name, Path, State, Graph, Chart}
use Rattle.chart_model.specs.Named.{graph_at, same_path, first}
use Rattle.chart_model.specs.States.{states_below, states_of}
use Rattle.chart_trees.specs.Around.{Around, around, list_of}
use Rattle.chart_trees.specs.Reading.{Piece, begun, graphs_of, state_of, with_actions, with_item, with_body, with_subgraph, with_items, piece_of, at_first, chart_of}
use Rattle.law_models.specs.wiring_laws.state_names.States.{name_of_item, names_here}
use Rattle.law_models.specs.wiring_laws.read_wirings.Differ.{BodyDiffers, ItemsDiffer, ChartDiffers}
use Rattle.law_models.proofs.class_laws.Lookup.{Within, Away, within_itself, within_outer, not_inside, same_child, each_so, away_inside, missed, found}
use Rattle.law_models.proofs.class_laws.Charts.{each_both}

-- ---- the states of a text, and how many graphs it has

abbrev mutual
  -- the states of a graph by their paths, each before those of its own graph
  pub paths_of_item : Path → GraphItemTree → List Path
  paths_of_item owner (AState s) = paths_of_state owner s
  paths_of_item owner (AChoice c) = []
  paths_of_item owner (APoint p) = []
  paths_of_item owner (ATransition t) = []
  paths_of_item owner (ARefinement path change) = []

  pub paths_of_state : Path → StateTree → List Path
  paths_of_state owner (StateOf n b) = (n ∷ owner) ∷ paths_of_body (n ∷ owner) b

  pub paths_of_body : Path → BodyTree → List Path
  paths_of_body owner no_body = []
  paths_of_body owner (body entry exit sub) = paths_of_subgraph owner sub

  pub paths_of_subgraph : Path → SubgraphTree → List Path
  paths_of_subgraph owner no_subgraph = []
  paths_of_subgraph owner (subgraph is) = paths_of_graph owner is

  pub paths_of_graph : Path → GraphItems → List Path
  paths_of_graph owner no_items = []
  paths_of_graph owner (item i is) = paths_of_item owner i ++ paths_of_graph owner is

abbrev mutual
  -- how many graphs there are inside
  graphs_in_item : GraphItemTree → ℕ
  graphs_in_item (AState s) = graphs_in_state s
  graphs_in_item (AChoice c) = 0
  graphs_in_item (APoint p) = 0
  graphs_in_item (ATransition t) = 0
  graphs_in_item (ARefinement path change) = 0

  graphs_in_state : StateTree → ℕ
  graphs_in_state (StateOf n b) = graphs_in_body b

  graphs_in_body : BodyTree → ℕ
  graphs_in_body no_body = 0
  graphs_in_body (body entry exit sub) = graphs_in_subgraph sub

  graphs_in_subgraph : SubgraphTree → ℕ
  graphs_in_subgraph no_subgraph = 0
  graphs_in_subgraph (subgraph is) = suc (graphs_in is)

  pub graphs_in : GraphItems → ℕ
  graphs_in no_items = 0
  graphs_in (item i is) = graphs_in_item i + graphs_in is

-- ---- a chart that has what a text has

abbrev states_at : Chart → Path → List State
states_at chart owner = option_map_or (λ (g : Graph). g.states) (graph_at chart owner) []

abbrev named : List State → List Name
named ss = map (λ (s : State). s.name) ss

abbrev mutual
  -- the graph of each state is found at the state's path, and none at that of a state without one
  ItemHas : Chart → Path → GraphItemTree → Type 0
  ItemHas chart owner (AState s) = StateHas chart owner s
  ItemHas chart owner (AChoice c) = Unit {0}
  ItemHas chart owner (APoint p) = Unit {0}
  ItemHas chart owner (ATransition t) = Unit {0}
  ItemHas chart owner (ARefinement path change) = Unit {0}

  StateHas : Chart → Path → StateTree → Type 0
  StateHas chart owner (StateOf n b) = BodyHas chart (n ∷ owner) b

  BodyHas : Chart → Path → BodyTree → Type 0
  BodyHas chart owner no_body = graph_at chart owner ≡ None
  BodyHas chart owner (body entry exit sub) = SubgraphHas chart owner sub

  SubgraphHas : Chart → Path → SubgraphTree → Type 0
  SubgraphHas chart owner no_subgraph = graph_at chart owner ≡ None
  SubgraphHas chart owner (subgraph is) = (named (states_at chart owner) ≡ names_here is) × ItemsHave chart owner is

  pub ItemsHave : Chart → Path → GraphItems → Type 0
  ItemsHave chart owner no_items = Unit {0}
  ItemsHave chart owner (item i is) = ItemHas chart owner i × ItemsHave chart owner is

-- ---- its states are those of the text

flat_named : {X : Type 0} (f : Name → List X) (ss : List State) → flat_map (λ (s : State). f s.name) ss ≡ flat_map f (named ss)
flat_named f [] = refl
flat_named f (s ∷ ss) = ap (λ xs. f s.name ++ xs) (flat_named f ss)

-- a state with those inside it, at most n graphs deep
abbrev here_below : Chart → ℕ → Path → Name → List Path
here_below chart n owner s = (s ∷ owner) ∷ states_below chart n (s ∷ owner)

none_below : (chart : Chart) (n : ℕ) (owner : Path) → graph_at chart owner ≡ None → states_below chart n owner ≡ []
unfolding states_below
none_below chart zero owner e = refl
none_below chart (suc n) owner e =
    ap (λ o. flat_map (λ (s : State). (s.name ∷ owner) ∷ states_below chart n (s.name ∷ owner)) (option_map_or (λ (g : Graph). g.states) o [])) e

mutual
  unfolding states_below

  item_states : (i : GraphItemTree) (chart : Chart) (n : ℕ) (owner : Path) (rest : List Name) → ItemHas chart owner i → graphs_in_item i ≤ n
      → flat_map (here_below chart n owner) (name_of_item i rest) ≡ paths_of_item owner i ++ flat_map (here_below chart n owner) rest
  item_states (AState (StateOf name b)) chart n owner rest h enough =
      ap (λ xs. (name ∷ owner) ∷ (xs ++ flat_map (here_below chart n owner) rest)) (body_states b chart n (name ∷ owner) h enough)
  item_states (AChoice c) chart n owner rest h enough = refl
  item_states (APoint p) chart n owner rest h enough = refl
  item_states (ATransition t) chart n owner rest h enough = refl
  item_states (ARefinement path change) chart n owner rest h enough = refl

  body_states : (b : BodyTree) (chart : Chart) (n : ℕ) (owner : Path) → BodyHas chart owner b → graphs_in_body b ≤ n → states_below chart n owner ≡ paths_of_body owner b
  body_states no_body chart n owner h enough = none_below chart n owner h
  body_states (body entry exit sub) chart n owner h enough = subgraph_states sub chart n owner h enough

  subgraph_states : (sub : SubgraphTree) (chart : Chart) (n : ℕ) (owner : Path) → SubgraphHas chart owner sub → graphs_in_subgraph sub ≤ n
      → states_below chart n owner ≡ paths_of_subgraph owner sub
  subgraph_states no_subgraph chart n owner h enough = none_below chart n owner h
  subgraph_states (subgraph is) chart zero owner h enough = absurd (omega (arith, enough))
  subgraph_states (subgraph is) chart (suc n) owner h enough =
      flat_named (here_below chart n owner) (states_at chart owner) ∙ ap (flat_map (here_below chart n owner)) h.0 ∙ items_states is chart n owner h.1 (omega (arith, enough))

  items_states : (is : GraphItems) (chart : Chart) (n : ℕ) (owner : Path) → ItemsHave chart owner is → graphs_in is ≤ n
      → flat_map (here_below chart n owner) (names_here is) ≡ paths_of_graph owner is
  items_states no_items chart n owner h enough = refl
  items_states (item i is) chart n owner h enough =
      item_states i chart n owner (names_here is) h.0 (omega (arith, enough))
      ∙ ap (λ xs. paths_of_item owner i ++ xs) (items_states is chart n owner h.1 (omega (arith, enough)))

graph_states : (is : GraphItems) (chart : Chart) (n : ℕ) (owner : Path) → named (states_at chart owner) ≡ names_here is → ItemsHave chart owner is → graphs_in is ≤ n
    → states_below chart (suc n) owner ≡ paths_of_graph owner is
unfolding states_below
graph_states is chart n owner names h enough =
    flat_named (here_below chart n owner) (states_at chart owner) ∙ ap (flat_map (here_below chart n owner)) names ∙ items_states is chart n owner h enough

-- ---- what reading adds to the graphs

-- graphs that were read more, all of them of a state or inside it
record AddsInside (owner : Path) (p q : Piece) : Type 0 where
  more : List Graph
  is : q.inner ≡ p.inner ++ more
  within : Each (λ (g : Graph). Within owner g.owner) more

-- graphs that were read more, none of them in a state of another name than these
record AddsApart (owner : Path) (names : List Name) (p q : Piece) : Type 0 where
  more : List Graph
  is : q.inner ≡ p.inner ++ more
  apart : (n : Name) → Each (λ (m : Name). same n m ≡ false) names → Away (n ∷ owner) more

differ : (x y : Name) → same x y ≡ false → x ≡ y → ⊥
differ x y e is = let both : true ≡ false = sym ((bytes_decides x y).1 is) ∙ e in absurd cc

each_join : {X : Type 0} (P Q R : X → Type 0) (xs : List X) → ((x : X) → P x → Q x → R x) → Each P xs → Each Q xs → Each R xs
each_join P Q R [] f h k = tt
each_join P Q R (x ∷ xs) f h k = (f x h.0 k.0, each_join P Q R xs f h.1 k.1)

each_name : {X : Type 0} (P : X → Type 0) (xs : List X) → ((x : X) → P x) → Each P xs
each_name P [] f = tt
each_name P (x ∷ xs) f = (f x, each_name P xs f)

-- what lies in one state lies in no other
inside_away : (m n : Name) (owner : Path) (gs : List Graph) → (n ≡ m → ⊥) → Each (λ (g : Graph). Within (m ∷ owner) g.owner) gs → Away (n ∷ owner) gs
inside_away m n owner gs other h =
    each_so (λ (g : Graph). Within (m ∷ owner) g.owner) (λ (g : Graph). Within (n ∷ owner) g.owner → ⊥) gs (λ g w v. other (same_child n m owner g.owner v w)) h

module _ (scope : Scope) where
  -- ---- the states that are read

  subgraph_keeps : (sub : SubgraphTree) (owner : Path) (p : Piece) → (with_subgraph scope sub owner p).states ≡ p.states
  subgraph_keeps no_subgraph owner p = refl
  subgraph_keeps (subgraph is) owner p = refl

  body_names : (b : BodyTree) (n : Name) (owner : Path) (p : Piece) → named (with_body scope b n owner p).states ≡ named p.states ++ n ∷ []
  body_names no_body n owner p = map-append (λ (s : State). s.name) p.states (state_of scope p.come n None None ∷ [])
  body_names (body entry exit sub) n owner p =
      ap named (subgraph_keeps sub (n ∷ owner) (with_actions scope n entry exit p)) ∙ map-append (λ (s : State). s.name) p.states (state_of scope p.come n entry exit ∷ [])

  item_names : (i : GraphItemTree) (a : Around) (owner : Path) (p : Piece) (rest : List Name) → named (with_item scope i a owner p).states ++ rest ≡ named p.states ++ name_of_item i rest
  item_names (AState (StateOf n b)) a owner p rest = ap (λ xs. xs ++ rest) (body_names b n owner p) ∙ append_assoc (named p.states) (n ∷ []) rest
  item_names (AChoice c) a owner p rest = refl
  item_names (APoint q) a owner p rest = refl
  item_names (ATransition t) a owner p rest = refl
  item_names (ARefinement path change) a owner p rest = refl

  items_names : (is : GraphItems) (a : Around) (owner : Path) (p : Piece) → named (with_items scope is a owner p).states ≡ named p.states ++ names_here is
  items_names no_items a owner p = sym (append-nil (named p.states))
  items_names (item i is) a owner p = items_names is a owner (with_item scope i a owner p) ∙ item_names i a owner p (names_here is)

  -- ---- the graphs that are read

  mutual
    body_adds : (b : BodyTree) (n : Name) (owner : Path) (p : Piece) → AddsInside (n ∷ owner) p (with_body scope b n owner p)
    body_adds no_body n owner p = record { more = []; is = sym (append-nil p.inner); within = tt }
    body_adds (body entry exit no_subgraph) n owner p = record { more = []; is = sym (append-nil p.inner); within = tt }
    body_adds (body entry exit (subgraph is)) n owner p =
        let q = with_items scope is (around (list_of is)) (n ∷ owner) (begun (with_actions scope n entry exit p).come) in
        record {
          more = graphs_of (n ∷ owner) q;
          is = refl;
          within = (within_itself (n ∷ owner), items_within is (around (list_of is)) (n ∷ owner) (begun (with_actions scope n entry exit p).come) tt);
        }

    items_within : (is : GraphItems) (a : Around) (owner : Path) (p : Piece) → Each (λ (g : Graph). Within owner g.owner) p.inner
        → Each (λ (g : Graph). Within owner g.owner) (with_items scope is a owner p).inner
    items_within no_items a owner p h = h
    items_within (item (AState (StateOf n b)) is) a owner p h =
        let adds = body_adds b n owner p in
        let inside = each_so (λ (g : Graph). Within (n ∷ owner) g.owner) (λ (g : Graph). Within owner g.owner) adds.more (λ g w. within_outer n owner g.owner w) adds.within in
        items_within is a owner (with_body scope b n owner p) (subst (Each (λ (g : Graph). Within owner g.owner)) (sym adds.is) (each_both (λ (g : Graph). Within owner g.owner) p.inner adds.more h inside))
    items_within (item (AChoice c) is) a owner p h = items_within is a owner (with_item scope (AChoice c) a owner p) h
    items_within (item (APoint q) is) a owner p h = items_within is a owner (with_item scope (APoint q) a owner p) h
    items_within (item (ATransition t) is) a owner p h = items_within is a owner (with_item scope (ATransition t) a owner p) h
    items_within (item (ARefinement path change) is) a owner p h = items_within is a owner (with_item scope (ARefinement path change) a owner p) h

  items_add : (is : GraphItems) (a : Around) (owner : Path) (p : Piece) → AddsApart owner (names_here is) p (with_items scope is a owner p)
  items_add no_items a owner p = record { more = []; is = sym (append-nil p.inner); apart = λ n h. tt }
  items_add (item (AState (StateOf m b)) is) a owner p =
      let here = body_adds b m owner p in
      let later = items_add is a owner (with_body scope b m owner p) in
      record {
        more = here.more ++ later.more;
        is = later.is ∙ ap (λ gs. gs ++ later.more) here.is ∙ append_assoc p.inner here.more later.more;
        apart = λ n h. each_both (λ (g : Graph). Within (n ∷ owner) g.owner → ⊥) here.more later.more (inside_away m n owner here.more (differ n m h.0) here.within) (later.apart n h.1);
      }
  items_add (item (AChoice c) is) a owner p = let later = items_add is a owner (with_item scope (AChoice c) a owner p) in record { more = later.more; is = later.is; apart = later.apart }
  items_add (item (APoint q) is) a owner p = let later = items_add is a owner (with_item scope (APoint q) a owner p) in record { more = later.more; is = later.is; apart = later.apart }
  items_add (item (ATransition t) is) a owner p = let later = items_add is a owner (with_item scope (ATransition t) a owner p) in record { more = later.more; is = later.is; apart = later.apart }
  items_add (item (ARefinement path change) is) a owner p = let later = items_add is a owner (with_item scope (ARefinement path change) a owner p) in record { more = later.more; is = later.is; apart = later.apart }

  -- ---- how many they are

  mutual
    item_count : (i : GraphItemTree) (a : Around) (owner : Path) (p : Piece) → length (with_item scope i a owner p).inner ≡ length p.inner + graphs_in_item i
    item_count (AState (StateOf n b)) a owner p = body_count b n owner p
    item_count (AChoice c) a owner p = omega arith
    item_count (APoint q) a owner p = omega arith
    item_count (ATransition t) a owner p = omega arith
    item_count (ARefinement path change) a owner p = omega arith

    body_count : (b : BodyTree) (n : Name) (owner : Path) (p : Piece) → length (with_body scope b n owner p).inner ≡ length p.inner + graphs_in_body b
    body_count no_body n owner p = omega arith
    body_count (body entry exit no_subgraph) n owner p = omega arith
    body_count (body entry exit (subgraph is)) n owner p =
        let q = with_items scope is (around (list_of is)) (n ∷ owner) (begun (with_actions scope n entry exit p).come) in
        let inside = items_count is (around (list_of is)) (n ∷ owner) (begun (with_actions scope n entry exit p).come) in
        let parts = length-append p.inner (graphs_of (n ∷ owner) q) in
        omega (arith, inside, parts)

    pub items_count : (is : GraphItems) (a : Around) (owner : Path) (p : Piece) → length (with_items scope is a owner p).inner ≡ length p.inner + graphs_in is
    items_count no_items a owner p = omega arith
    items_count (item i is) a owner p =
        let later = items_count is a owner (with_item scope i a owner p) in
        let here = item_count i a owner p in
        omega (arith, later, here)

  -- ---- the chart that the text writes has what the text has

  module _ (chart : Chart) where
    -- no graph before, so far or after belongs to the state of a name
    abbrev Free : Path → List Graph → List Graph → List Graph → Name → Type 0
    Free owner before so_far after n = Away (n ∷ owner) before × Away (n ∷ owner) so_far × Away (n ∷ owner) after

    nothing_at : (owner : Path) (before so_far after : List Graph) → chart.graphs ≡ before ++ (so_far ++ after) → Away owner before → Away owner so_far → Away owner after
        → graph_at chart owner ≡ None
    nothing_at owner before so_far after e x y z =
        ap (first (λ (g : Graph). same_path g.owner owner)) e
        ∙ missed owner (before ++ (so_far ++ after)) (each_both (λ (g : Graph). Within owner g.owner → ⊥) before (so_far ++ after) x (each_both (λ (g : Graph). Within owner g.owner → ⊥) so_far after y z))

    mutual
      unfolding IsDistinct

      body_has : (b : BodyTree) (n : Name) (owner : Path) (p : Piece) (before after : List Graph) → chart.graphs ≡ before ++ ((with_body scope b n owner p).inner ++ after)
          → Free owner before p.inner after n → BodyDiffers b → BodyHas chart (n ∷ owner) b
      body_has no_body n owner p before after e free d = nothing_at (n ∷ owner) before p.inner after e free.0 free.1 free.2
      body_has (body entry exit no_subgraph) n owner p before after e free d = nothing_at (n ∷ owner) before p.inner after e free.0 free.1 free.2
      body_has (body entry exit (subgraph is)) n owner p before after e free d =
          let come = (with_actions scope n entry exit p).come in
          let q = with_items scope is (around (list_of is)) (n ∷ owner) (begun come) in
          let head : Graph = record { owner = n ∷ owner; states = q.states; points = q.points; choices = q.choices; transitions = q.transitions } in
          let apart = each_both (λ (g : Graph). Within (n ∷ owner) g.owner → ⊥) before p.inner free.0 free.1 in
          let split : chart.graphs ≡ (before ++ p.inner) ++ (head ∷ (q.inner ++ after)) =
          e ∙ ap (λ gs. before ++ gs) (append_assoc p.inner (head ∷ q.inner) after) ∙ sym (append_assoc before p.inner (head ∷ (q.inner ++ after))) in
          let there : graph_at chart (n ∷ owner) ≡ Some head =
          ap (first (λ (g : Graph). same_path g.owner (n ∷ owner))) split ∙ found (n ∷ owner) (before ++ p.inner) head (q.inner ++ after) apart refl in
          let names : named (states_at chart (n ∷ owner)) ≡ names_here is =
          ap (λ (o : Option Graph). named (option_map_or (λ (g : Graph). g.states) o [])) there ∙ items_names is (around (list_of is)) (n ∷ owner) (begun come) in (
            names,
            items_have is (around (list_of is)) (n ∷ owner) (begun come) ((before ++ p.inner) ++ head ∷ []) after
                (split ∙ sym (append_assoc (before ++ p.inner) (head ∷ []) (q.inner ++ after)))
                (each_name (Free (n ∷ owner) ((before ++ p.inner) ++ head ∷ []) [] after) (names_here is)
                (λ m. (
                  each_both (λ (g : Graph). Within (m ∷ n ∷ owner) g.owner → ⊥) (before ++ p.inner) (head ∷ []) (away_inside m (n ∷ owner) (before ++ p.inner) apart) (not_inside m (n ∷ owner), tt),
                  tt,
                  away_inside m (n ∷ owner) after free.2,
                )))
                d.0 d.1,
          )

      pub items_have : (is : GraphItems) (a : Around) (owner : Path) (p : Piece) (before after : List Graph) → chart.graphs ≡ before ++ ((with_items scope is a owner p).inner ++ after)
          → Each (Free owner before p.inner after) (names_here is) → AreDistinct (names_here is) → ItemsDiffer is → ItemsHave chart owner is
      items_have no_items a owner p before after e free distinct d = tt
      items_have (item (AState (StateOf n b)) is) a owner p before after e free distinct d =
          let here = body_adds b n owner p in
          let later = items_add is a owner (with_body scope b n owner p) in
          let reached : chart.graphs ≡ before ++ ((with_body scope b n owner p).inner ++ (later.more ++ after)) =
          e ∙ ap (λ gs. before ++ (gs ++ after)) later.is ∙ ap (λ gs. before ++ gs) (append_assoc (with_body scope b n owner p).inner later.more after) in
          let behind = each_both (λ (g : Graph). Within (n ∷ owner) g.owner → ⊥) later.more after (later.apart n distinct.0) free.0.2 in
          let others = each_join (Free owner before p.inner after) (λ (m : Name). same n m ≡ false) (Free owner before (with_body scope b n owner p).inner after) (names_here is)
          (λ m f other. (
            f.0,
            subst (Away (m ∷ owner)) (sym here.is)
                (each_both (λ (g : Graph). Within (m ∷ owner) g.owner → ⊥) p.inner here.more f.1 (inside_away n m owner here.more (λ is. differ n m other (sym is)) here.within)),
            f.2,
          ))
          free.1 distinct.0 in
          (body_has b n owner p before (later.more ++ after) reached (free.0.0, free.0.1, behind) d.0, items_have is a owner (with_body scope b n owner p) before after e others distinct.1 d.1)
      items_have (item (AChoice c) is) a owner p before after e free distinct d = (tt, items_have is a owner (with_item scope (AChoice c) a owner p) before after e free distinct d.1)
      items_have (item (APoint q) is) a owner p before after e free distinct d = (tt, items_have is a owner (with_item scope (APoint q) a owner p) before after e free distinct d.1)
      items_have (item (ATransition t) is) a owner p before after e free distinct d = (tt, items_have is a owner (with_item scope (ATransition t) a owner p) before after e free distinct d.1)
      items_have (item (ARefinement path change) is) a owner p before after e free distinct d = (tt, items_have is a owner (with_item scope (ARefinement path change) a owner p) before after e free distinct d.1)

  -- the states of the chart, by their paths
  pub chart_paths : (names : List Name) (is : GraphItems) → ChartDiffers (Some is) → states_of (chart_of scope names is) ≡ paths_of_graph [] is
  unfolding states_of chart_of
  chart_paths names is d =
      let q = piece_of scope is [] (at_first names) in
      let chart = chart_of scope names is in
      let head : Graph = record { owner = []; states = q.states; points = q.points; choices = q.choices; transitions = q.transitions } in
      let there : graph_at chart [] ≡ Some head = found [] [] head q.inner tt refl in
      let named_so : named (states_at chart []) ≡ names_here is =
      ap (λ (o : Option Graph). named (option_map_or (λ (g : Graph). g.states) o [])) there ∙ items_names is (around (list_of is)) [] (begun (at_first names)) in
      let have = items_have chart is (around (list_of is)) [] (begun (at_first names)) (head ∷ []) []
      (ap (λ gs. head ∷ gs) (sym (append-nil q.inner)))
      (each_name (Free chart [] (head ∷ []) [] []) (names_here is) (λ m. ((not_inside m [], tt), tt, tt))) d.0 d.1 in
      let many = items_count is (around (list_of is)) [] (begun (at_first names)) in
      graph_states is chart (length q.inner) [] named_so have (omega (arith, many))
