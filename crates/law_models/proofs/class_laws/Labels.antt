-- The labels of the states of a class are those of its chart.
use Rattle.std.proofs.Common.{◌≡◌, ◌∙◌, ℕ, zero, suc, ◌-◌, ◌≤◌, Bool, true, false, cond, lt-ltb, List, [], ◌∷◌, ◌++◌, append_assoc, length, length-append, map, reverse, Option, Some, None, option_map, refl, sym, ap, subst, arith}
use Rattle.std.specs.Prelude.{All, nat_lt, slice_get}
use Rattle.std.specs.List.{list_all, join_with_byte}
use Rattle.std.specs.Option.{option_map_or}
use Rattle.std.proofs.lemmas.Bool.{and_parts}
use Rattle.std.proofs.lemmas.List.{map-append, reverse-append}
use Rattle.std.proofs.lemmas.List.Elements.{All-head, All-tail}
use Rattle.room_ast.specs.ChartTree.{GraphItemTree, AState, AChoice, APoint, ATransition, ARefinement, StateOf, BodyTree, no_body, body, no_subgraph, subgraph, GraphItems, no_items, item}
use Rattle.room_ast.specs.Trees.{ModelTree, ActorTree}
use Rattle.room_ast.specs.declared.scope.Scope.{Scope}
use Rattle.room_ast.specs.model_parts.Charts.{chart_of as machine_of}
use Rattle.room_ast.specs.model_parts.Classes.{actors}
use Rattle.room_wiring.specs.WellNamed.{IsIdent, IsStateLabel, IsWellNamedClass}
use Rattle.wiring_plan.specs.wiring_classes.Labels.{label_of}
use Rattle.wiring_plan.specs.wiring_classes.States.{states_of_item, states_of_body, states_of_graph, graphs_below, state_labels}
use Rattle.wiring_plan.specs.wiring_classes.Classes.{class_names}
use Rattle.chart_model.specs.Chart.{Name, Path, Chart}
use Rattle.chart_model.specs.States.{state_label}
use Rattle.chart_trees.specs.Reading.{chart_of}
use Rattle.chart_reader.specs.Depth.{item_nests, body_nests, graph_nests}
use Rattle.chart_reader.specs.Faults.{names_fault}
use Rattle.chart_reader.specs.model_charts.Charts.{HasFault, chart_in}
use Rattle.chart_reader.specs.model_charts.Written.{written}
use Rattle.chart_reader.proofs.Nesting.{depth_told}
use Rattle.law_models.proofs.wiring_laws.chart_state_names.Models.{states_differ}
use Rattle.law_models.specs.wiring_laws.read_wirings.Differ.{ChartDiffers}
use Rattle.law_models.specs.class_laws.Laws.{HasLabelsOf, StatesAreLabelled}
use Rattle.law_models.proofs.class_laws.Models.{ClassAt, class_at, class_is}
use Rattle.law_models.proofs.class_laws.Paths.{paths_of_item, paths_of_body, paths_of_graph, chart_paths}

-- ---- the text of a path

-- what stands before the names in the graph of a state
before : Path → List ℕ
before [] = []
before (s ∷ owner) = state_label (s ∷ owner) ++ 46 ∷ []

joined_more : (ws : List (List ℕ)) (w : List ℕ) → 1 ≤ length ws → join_with_byte 46 (ws ++ w ∷ []) ≡ join_with_byte 46 ws ++ 46 ∷ w
joined_more [] w h = absurd (omega arith)
joined_more (v ∷ []) w h = refl
joined_more (v ∷ u ∷ ws) w h = ap (λ x. v ++ 46 ∷ x) (joined_more (u ∷ ws) w (omega arith)) ∙ sym (append_assoc v (46 ∷ join_with_byte 46 (u ∷ ws)) (46 ∷ w))

turned : (n : Name) (owner : Path) → reverse (n ∷ owner) ≡ reverse owner ++ n ∷ []
turned n owner = reverse-append (n ∷ []) owner

some_turned : (s : Name) (owner : Path) → 1 ≤ length (reverse (s ∷ owner))
some_turned s owner =
    let long = ap length (turned s owner) in
    let parts = length-append (reverse owner) (s ∷ []) in
    omega (arith, long, parts)

label_inside : (n : Name) (owner : Path) → state_label (n ∷ owner) ≡ before owner ++ n
unfolding before
label_inside n [] = refl
label_inside n (s ∷ owner) =
    ap (join_with_byte 46) (turned n (s ∷ owner)) ∙ joined_more (reverse (s ∷ owner)) n (some_turned s owner)
    ∙ sym (append_assoc (state_label (s ∷ owner)) (46 ∷ []) n)

-- ---- the texts of states are those of their paths

mutual
  -- where no state may stand there is none
  none_in_item : (i : GraphItemTree) (owner : Path) → item_nests i 0 ≡ true → paths_of_item owner i ≡ []
  none_in_item (AState (StateOf n b)) owner h = absurd cc
  none_in_item (AChoice c) owner h = refl
  none_in_item (APoint p) owner h = refl
  none_in_item (ATransition t) owner h = refl
  none_in_item (ARefinement path change) owner h = refl

  none_in_graph : (is : GraphItems) (owner : Path) → graph_nests is 0 ≡ true → paths_of_graph owner is ≡ []
  none_in_graph no_items owner h = refl
  none_in_graph (item i is) owner h =
      let both = and_parts (item_nests i 0) (graph_nests is 0) h in
      ap (λ xs. xs ++ paths_of_graph owner is) (none_in_item i owner both.0) ∙ none_in_graph is owner both.1

mutual
  unfolding before

  texts_of_item : (i : GraphItemTree) (left : ℕ) (owner : Path) → item_nests i (suc left) ≡ true → states_of_item left (before owner) i ≡ map state_label (paths_of_item owner i)
  texts_of_item (AState (StateOf n b)) left owner h =
      let less : suc left - 1 ≡ left = omega arith in
      let inside : body_nests b left ≡ true =
      subst (λ k. body_nests b k ≡ true) less (and_parts (nat_lt 0 (suc left)) (body_nests b (suc left - 1)) h).1 in
      let label : before owner ++ n ≡ state_label (n ∷ owner) = sym (label_inside n owner) in
      ap (λ t. t ∷ states_of_body left t b) label ∙ ap (λ ts. state_label (n ∷ owner) ∷ ts) (texts_of_body b left n owner inside)
  texts_of_item (AChoice c) left owner h = refl
  texts_of_item (APoint p) left owner h = refl
  texts_of_item (ATransition t) left owner h = refl
  texts_of_item (ARefinement path change) left owner h = refl

  texts_of_body : (b : BodyTree) (left : ℕ) (n : Name) (owner : Path) → body_nests b left ≡ true
      → states_of_body left (state_label (n ∷ owner)) b ≡ map state_label (paths_of_body (n ∷ owner) b)
  texts_of_body no_body left n owner h = refl
  texts_of_body (body entry exit no_subgraph) left n owner h = refl
  texts_of_body (body entry exit (subgraph is)) zero n owner h = sym (ap (map state_label) (none_in_graph is (n ∷ owner) h))
  texts_of_body (body entry exit (subgraph is)) (suc left) n owner h =
      let less : suc left - 1 ≡ left = omega arith in
      let some : nat_lt 0 (suc left) ≡ true = lt-ltb 0 (suc left) (omega arith) in
      ap (λ t. cond t (states_of_graph (suc left - 1) (state_label (n ∷ owner) ++ 46 ∷ []) is) []) some
      ∙ ap (λ k. states_of_graph k (state_label (n ∷ owner) ++ 46 ∷ []) is) less ∙ texts_of_graph is left (n ∷ owner) h

  texts_of_graph : (is : GraphItems) (left : ℕ) (owner : Path) → graph_nests is (suc left) ≡ true → states_of_graph left (before owner) is ≡ map state_label (paths_of_graph owner is)
  texts_of_graph no_items left owner h = refl
  texts_of_graph (item i is) left owner h =
      let both = and_parts (item_nests i (suc left)) (graph_nests is (suc left)) h in
      ap (λ ts. ts ++ states_of_graph left (before owner) is) (texts_of_item i left owner both.0)
      ∙ ap (λ ts. map state_label (paths_of_item owner i) ++ ts) (texts_of_graph is left owner both.1)
      ∙ sym (map-append state_label (paths_of_item owner i) (paths_of_graph owner is))

-- ---- labels that are names are as they are written

not_empty : IsStateLabel [] → ⊥
not_empty l = by_names l.names l.some l.each l.joined
  where
    by_names : (ws : List (List ℕ)) → 1 ≤ length ws → All IsIdent ws → [] ≡ join_with_byte 46 ws → ⊥
    by_names [] some each e = omega (arith, some)
    by_names (w ∷ []) some each e = no_ident (subst IsIdent (sym e) (All-head IsIdent w [] each))
      where
        no_ident : IsIdent [] → ⊥
        no_ident i = let never = i.ident in absurd cc
    by_names (w ∷ v ∷ ws) some each e =
        let long = ap length e in
        let parts = length-append w (46 ∷ join_with_byte 46 (v ∷ ws)) in
        omega (arith, long, parts)

as_written : (texts : List (List ℕ)) → All IsStateLabel (map label_of texts) → map label_of texts ≡ texts
unfolding label_of
as_written [] h = refl
as_written (x ∷ xs) h =
    ap (λ y. y ∷ map label_of xs) (one (All-head IsStateLabel (label_of x) (map label_of xs) h)) ∙ ap (λ ys. x ∷ ys) (as_written xs (All-tail IsStateLabel (label_of x) (map label_of xs) h))
  where
    by_test : (b : Bool) → IsStateLabel (cond b x []) → cond b x [] ≡ x
    by_test true l = refl
    by_test false l = absurd (not_empty l)

    one : IsStateLabel (label_of x) → label_of x ≡ x
    one l = by_test (list_all (λ b. nat_lt b 128) x) l

-- ---- a class

-- the chart of a text without a fault isn't too deep
nests : (scope : Scope) (names : List Name) (is : GraphItems) → names_fault (chart_of scope names is) ≡ None → graph_nests is 16 ≡ true
nests scope names is clear = by_test (graph_nests is 16) refl
  where
    by_test : (b : Bool) → graph_nests is 16 ≡ b → b ≡ true
    by_test true e = refl
    by_test false e = let told = sym clear ∙ depth_told scope names is e in absurd cc

one_labelled : (m : ModelTree) (k : ℕ) (chart : Option Chart) (x : ClassAt m (actors m) k chart) → ChartDiffers (machine_of x.actor) → IsWellNamedClass (class_names m x.actor)
    → HasLabelsOf (class_names m x.actor) chart
unfolding class_names state_labels before
one_labelled m k chart x differs named = subst (HasLabelsOf (class_names m x.actor)) x.chart_is (by_machine (machine_of x.actor) refl differs x.faultless)
  where
    labels_are : (o : Option GraphItems) → machine_of x.actor ≡ o → (class_names m x.actor).states ≡ option_map_or (states_of_graph graphs_below []) o []
    labels_are o is = as_written (option_map_or (states_of_graph graphs_below []) (machine_of x.actor) []) named.states ∙ ap (λ (q : Option GraphItems). option_map_or (states_of_graph graphs_below []) q []) is

    by_machine : (o : Option GraphItems) → machine_of x.actor ≡ o → ChartDiffers o → HasFault (option_map (written x.scope x.names) o) None
        → HasLabelsOf (class_names m x.actor) (chart_in (option_map (written x.scope x.names) o))
    by_machine None is d clear = labels_are None is
    by_machine (Some items) is d clear =
        labels_are (Some items) is ∙ texts_of_graph items 15 [] (nests x.scope x.names items clear.0) ∙ ap (map state_label) (sym (chart_paths x.scope x.names items d))

pub labelled : StatesAreLabelled
labelled m charts has k c chart there at named =
    let x = class_at m charts has k chart at in
    let is = class_is m k x.actor c x.actor_is there in
    let differs = all_differ (actors m) (states_differ m charts has).charts k x.actor x.actor_is in
    subst (λ d. HasLabelsOf d chart) is (one_labelled m k chart x differs (subst IsWellNamedClass (sym is) named))
  where
    all_differ : (classes : List ActorTree) → All (λ (a : ActorTree). ChartDiffers (machine_of a)) classes → (i : ℕ) (a : ActorTree) → slice_get classes i ≡ Some a → ChartDiffers (machine_of a)
    all_differ [] h i a e = absurd cc
    all_differ (b ∷ bs) h zero a e =
        let same : b ≡ a = cc in subst (λ (z : ActorTree). ChartDiffers (machine_of z)) same (All-head (λ (z : ActorTree). ChartDiffers (machine_of z)) b bs h)
    all_differ (b ∷ bs) h (suc i) a e = all_differ bs (All-tail (λ (z : ActorTree). ChartDiffers (machine_of z)) b bs h) i a e
