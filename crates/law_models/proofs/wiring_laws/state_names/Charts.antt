-- The labels of the states of charts.
use Rattle.std.proofs.Common.{◌≡◌, ◌≢◌, ◌∙◌, inl, inr, ℕ, ◌-◌, Bool, true, false, cond, List, [], ◌∷◌, ◌++◌, map, Option, Some, None, refl, sym, subst}
use Rattle.std.specs.Prelude.{All, nat_lt}
use Rattle.std.specs.List.{IsDistinct, AllByRecursion}
use Rattle.std.specs.Option.{option_map_or}
use Rattle.std.proofs.lemmas.List.Elements.{All-nil, All-cons, All-head, All-tail}
use lib.Pointwise.{bytes_decides}
use Rattle.room_ast.specs.ChartTree.{GraphItemTree, AState, AChoice, APoint, ATransition, ARefinement, StateTree, StateOf, BodyTree, no_body, body, SubgraphTree, no_subgraph, subgraph, GraphItems, no_items, item}
use Rattle.room_ast.specs.Trees.{ModelTree, ActorTree}
use Rattle.room_wiring.specs.WellNamed.{IsIdent, IsStateLabel}
use Rattle.name_tables.specs.name_numbers.Names.{same, AreDistinct}
use Rattle.room_ast.specs.model_parts.Charts.{chart_of}
use Rattle.room_ast.specs.model_parts.Classes.{actors}
use Rattle.wiring_plan.specs.wiring_classes.Labels.{label_of}
use Rattle.wiring_plan.specs.wiring_classes.States.{states_of_item, states_of_state, states_of_body, states_of_subgraph, states_of_graph, graphs_below, state_labels}
use Rattle.wiring_plan.specs.wiring_classes.Classes.{class_names, classes_of}
use Rattle.law_models.proofs.wiring_laws.slot_paths.Each.{Each, each_append, each_so}
use Rattle.law_models.specs.wiring_laws.state_names.States.{names_here, ItemIsNamed, StateIsNamed, BodyIsNamed, SubgraphIsNamed, ItemsAreNamed, ChartIsNamed, NamesStates, HasWellNamedStates}
use Rattle.law_models.proofs.wiring_laws.state_names.Texts.{no_dot, labels_are, each_all, IsPrefix, formed, Below, Under, below_differ, below_under, below_itself, inside_below, inside_differs, Apart, apart_append, apart_differ}

-- ---- labels that are there only by a test

each_if : (P : List ℕ → Type 0) (b : Bool) (xs : List (List ℕ)) → Each P xs → Each P (cond b xs [])
each_if P true xs h = h
each_if P false xs h = tt

apart_if : (b : Bool) (xs : List (List ℕ)) → Apart xs → Apart (cond b xs [])
apart_if true xs h = h
apart_if false xs h = tt

-- ---- labels are made of names

mutual
  item_formed : (i : GraphItemTree) (left : ℕ) (pre : List ℕ) → IsPrefix pre → ItemIsNamed i → Each IsStateLabel (states_of_item left pre i)
  item_formed (AState s) left pre p h = state_formed s left pre p h
  item_formed (AChoice c) left pre p h = tt
  item_formed (APoint q) left pre p h = tt
  item_formed (ATransition t) left pre p h = tt
  item_formed (ARefinement path change) left pre p h = tt

  state_formed : (s : StateTree) (left : ℕ) (pre : List ℕ) → IsPrefix pre → StateIsNamed s → Each IsStateLabel (states_of_state left pre s)
  state_formed (StateOf name b) left pre p h = let label = formed pre name p h.0 in (label, body_formed b left (pre ++ name) label h.1)

  body_formed : (b : BodyTree) (left : ℕ) (text : List ℕ) → IsStateLabel text → BodyIsNamed b → Each IsStateLabel (states_of_body left text b)
  body_formed no_body left text l h = tt
  body_formed (body entry exit sub) left text l h = subgraph_formed sub left text l h

  subgraph_formed : (sub : SubgraphTree) (left : ℕ) (text : List ℕ) → IsStateLabel text → SubgraphIsNamed sub → Each IsStateLabel (states_of_subgraph left text sub)
  subgraph_formed no_subgraph left text l h = tt
  subgraph_formed (subgraph items) left text l h = each_if IsStateLabel (nat_lt 0 left) (states_of_graph (left - 1) (text ++ 46 ∷ []) items) (items_formed items (left - 1) (text ++ 46 ∷ []) (inr (text, l, refl)) h.1)

  items_formed : (is : GraphItems) (left : ℕ) (pre : List ℕ) → IsPrefix pre → ItemsAreNamed is → Each IsStateLabel (states_of_graph left pre is)
  items_formed no_items left pre p h = tt
  items_formed (item i is) left pre p h = each_append IsStateLabel (states_of_item left pre i) (states_of_graph left pre is) (item_formed i left pre p h.0) (items_formed is left pre p h.1)

-- ---- labels lie below those of the states around them

mutual
  item_under : (i : GraphItemTree) (left : ℕ) (pre : List ℕ) → Each (Under pre) (states_of_item left pre i)
  item_under (AState s) left pre = state_under s left pre
  item_under (AChoice c) left pre = tt
  item_under (APoint q) left pre = tt
  item_under (ATransition t) left pre = tt
  item_under (ARefinement path change) left pre = tt

  state_under : (s : StateTree) (left : ℕ) (pre : List ℕ) → Each (Under pre) (states_of_state left pre s)
  state_under (StateOf name b) left pre =
      (below_under pre name (pre ++ name) (below_itself (pre ++ name)), each_so (Below (pre ++ name)) (Under pre) (states_of_body left (pre ++ name) b) (λ x below. below_under pre name x below) (body_below b left (pre ++ name)))

  body_below : (b : BodyTree) (left : ℕ) (text : List ℕ) → Each (Below text) (states_of_body left text b)
  body_below no_body left text = tt
  body_below (body entry exit sub) left text = each_so (Under (text ++ 46 ∷ [])) (Below text) (states_of_subgraph left text sub) (λ x under. inside_below text x under) (subgraph_under sub left text)

  subgraph_under : (sub : SubgraphTree) (left : ℕ) (text : List ℕ) → Each (Under (text ++ 46 ∷ [])) (states_of_subgraph left text sub)
  subgraph_under no_subgraph left text = tt
  subgraph_under (subgraph items) left text = each_if (Under (text ++ 46 ∷ [])) (nat_lt 0 left) (states_of_graph (left - 1) (text ++ 46 ∷ []) items) (items_under items (left - 1) (text ++ 46 ∷ []))

  items_under : (is : GraphItems) (left : ℕ) (pre : List ℕ) → Each (Under pre) (states_of_graph left pre is)
  items_under no_items left pre = tt
  items_under (item i is) left pre = each_append (Under pre) (states_of_item left pre i) (states_of_graph left pre is) (item_under i left pre) (items_under is left pre)

body_under : (b : BodyTree) (left : ℕ) (text : List ℕ) → Each (Under (text ++ 46 ∷ [])) (states_of_body left text b)
body_under no_body left text = tt
body_under (body entry exit sub) left text = subgraph_under sub left text

state_below : (name : List ℕ) (b : BodyTree) (left : ℕ) (pre : List ℕ) → Each (Below (pre ++ name)) (states_of_state left pre (StateOf name b))
state_below name b left pre = (below_itself (pre ++ name), body_below b left (pre ++ name))

-- ---- labels differ

differ_if : (x y : List ℕ) → same x y ≡ false → x ≢ y
differ_if x y e is = let both : true ≡ false = sym ((bytes_decides x y).1 is) ∙ e in absurd cc

-- what is inside a state of another name differs
AwayFrom : List ℕ → List ℕ → Type 0
AwayFrom base l = (x : List ℕ) → Below base x → x ≢ l

items_away : (is : GraphItems) (left : ℕ) (pre name : List ℕ) → IsIdent name → AllByRecursion (λ y. same name y ≡ false) (names_here is) → ItemsAreNamed is → Each (AwayFrom (pre ++ name)) (states_of_graph left pre is)
unfolding AwayFrom
items_away no_items left pre name ident apart h = tt
items_away (item (AState (StateOf n b)) is) left pre name ident apart h =
    each_append (AwayFrom (pre ++ name)) (states_of_state left pre (StateOf n b)) (states_of_graph left pre is)
    (each_so (Below (pre ++ n)) (AwayFrom (pre ++ name)) (states_of_state left pre (StateOf n b)) (λ l below x under. below_differ pre name n x l (no_dot name ident) (no_dot n h.0.0) (differ_if name n apart.0) under below) (state_below n b left pre))
    (items_away is left pre name ident apart.1 h.1)
items_away (item (AChoice c) is) left pre name ident apart h = items_away is left pre name ident apart h.1
items_away (item (APoint q) is) left pre name ident apart h = items_away is left pre name ident apart h.1
items_away (item (ATransition t) is) left pre name ident apart h = items_away is left pre name ident apart h.1
items_away (item (ARefinement path change) is) left pre name ident apart h = items_away is left pre name ident apart h.1

cross : (name : List ℕ) (b : BodyTree) (left : ℕ) (pre : List ℕ) (ls : List (List ℕ)) → Each (AwayFrom (pre ++ name)) ls → Each (λ (x : List ℕ). Each (λ (y : List ℕ). x ≢ y) ls) (states_of_state left pre (StateOf name b))
unfolding AwayFrom
cross name b left pre ls away =
    each_so (Below (pre ++ name)) (λ (x : List ℕ). Each (λ (y : List ℕ). x ≢ y) ls) (states_of_state left pre (StateOf name b)) (λ x below. each_so (AwayFrom (pre ++ name)) (λ (y : List ℕ). x ≢ y) ls (λ y differ. differ x below) away) (state_below name b left pre)

mutual
  unfolding IsDistinct

  state_apart : (s : StateTree) (left : ℕ) (pre : List ℕ) → StateIsNamed s → Apart (states_of_state left pre s)
  state_apart (StateOf name b) left pre h =
      (each_so (Under ((pre ++ name) ++ 46 ∷ [])) (λ (y : List ℕ). (pre ++ name) ≢ y) (states_of_body left (pre ++ name) b) (λ y under. inside_differs (pre ++ name) y under) (body_under b left (pre ++ name)), body_apart b left (pre ++ name) h.1)

  body_apart : (b : BodyTree) (left : ℕ) (text : List ℕ) → BodyIsNamed b → Apart (states_of_body left text b)
  body_apart no_body left text h = tt
  body_apart (body entry exit sub) left text h = subgraph_apart sub left text h

  subgraph_apart : (sub : SubgraphTree) (left : ℕ) (text : List ℕ) → SubgraphIsNamed sub → Apart (states_of_subgraph left text sub)
  subgraph_apart no_subgraph left text h = tt
  subgraph_apart (subgraph items) left text h = apart_if (nat_lt 0 left) (states_of_graph (left - 1) (text ++ 46 ∷ []) items) (items_apart items (left - 1) (text ++ 46 ∷ []) h.0 h.1)

  item_apart : (i : GraphItemTree) (is : GraphItems) (left : ℕ) (pre : List ℕ) → AreDistinct (names_here (item i is)) → ItemIsNamed i → ItemsAreNamed is → (AreDistinct (names_here is) → Apart (states_of_graph left pre is)) → Apart (states_of_item left pre i ++ states_of_graph left pre is)
  item_apart (AState s) is left pre distinct named others rest = one_apart s is left pre distinct named others rest
  item_apart (AChoice c) is left pre distinct named others rest = rest distinct
  item_apart (APoint q) is left pre distinct named others rest = rest distinct
  item_apart (ATransition t) is left pre distinct named others rest = rest distinct
  item_apart (ARefinement path change) is left pre distinct named others rest = rest distinct

  one_apart : (s : StateTree) (is : GraphItems) (left : ℕ) (pre : List ℕ) → AreDistinct (names_here (item (AState s) is)) → StateIsNamed s → ItemsAreNamed is → (AreDistinct (names_here is) → Apart (states_of_graph left pre is)) → Apart (states_of_state left pre s ++ states_of_graph left pre is)
  one_apart (StateOf name b) is left pre distinct named others rest =
      apart_append (states_of_state left pre (StateOf name b)) (states_of_graph left pre is)
      (each_so (Under ((pre ++ name) ++ 46 ∷ [])) (λ (y : List ℕ). (pre ++ name) ≢ y) (states_of_body left (pre ++ name) b) (λ y under. inside_differs (pre ++ name) y under) (body_under b left (pre ++ name)), body_apart b left (pre ++ name) named.1)
      (rest distinct.1) (cross name b left pre (states_of_graph left pre is) (items_away is left pre name named.0 distinct.0 others))

  items_apart : (is : GraphItems) (left : ℕ) (pre : List ℕ) → AreDistinct (names_here is) → ItemsAreNamed is → Apart (states_of_graph left pre is)
  items_apart no_items left pre distinct h = tt
  items_apart (item i is) left pre distinct h = item_apart i is left pre distinct h.0 h.1 (λ d. items_apart is left pre d h.1)

-- ---- classes

chart_formed : (o : Option GraphItems) → ChartIsNamed o → Each IsStateLabel (option_map_or (states_of_graph graphs_below []) o [])
chart_formed None h = tt
chart_formed (Some is) h = items_formed is graphs_below [] (inl refl) h.1

chart_apart : (o : Option GraphItems) → ChartIsNamed o → Apart (option_map_or (states_of_graph graphs_below []) o [])
chart_apart None h = tt
chart_apart (Some is) h = items_apart is graphs_below [] h.0 h.1

one_class : (m : ModelTree) (a : ActorTree) → ChartIsNamed (chart_of a) → HasWellNamedStates (class_names m a)
unfolding class_names state_labels
one_class m a h =
    let texts = option_map_or (states_of_graph graphs_below []) (chart_of a) [] in
    let made = chart_formed (chart_of a) h in
    let is = labels_are texts made in
    record {
      labels = subst (λ ls. All IsStateLabel ls) (sym is) (each_all texts made);
      differ = λ i j x y ex ey e. apart_differ (map label_of texts) (subst Apart (sym is) (chart_apart (chart_of a) h)) i j x y ex ey e;
    }

all_classes : (m : ModelTree) (xs : List ActorTree) → All (λ (a : ActorTree). ChartIsNamed (chart_of a)) xs → All HasWellNamedStates (map (class_names m) xs)
all_classes m [] h = All-nil HasWellNamedStates
all_classes m (a ∷ xs) h =
    All-cons HasWellNamedStates (class_names m a) (map (class_names m) xs) (one_class m a (All-head (λ (x : ActorTree). ChartIsNamed (chart_of x)) a xs h)) (all_classes m xs (All-tail (λ (x : ActorTree). ChartIsNamed (chart_of x)) a xs h))

pub classes_named : (m : ModelTree) → NamesStates m → All HasWellNamedStates (classes_of m)
unfolding classes_of
classes_named m h = all_classes m (actors m) h.charts
