-- Graphs, and what refinements add to their states and transitions.
use Rattle.std.specs.Prelude.{◌≡◌, ℕ, ◌+◌, Bool, true, false, nat_eq, List, [], ◌∷◌, ◌++◌, Option, Some, None, if◌then◌else◌}
use Rattle.std.specs.List.{filter_map, cons_option}
use Rattle.std.specs.Option.{option_map_or}
use Rattle.name_tables.specs.name_numbers.Names.{same, is_among}
use Rattle.room_ast.specs.ChartTree.{GraphItemTree, AState, AChoice, APoint, ATransition, ARefinement, ChangeTree, OfState, OfTransition, StateTree, StateOf, BodyTree, no_body, body, SubgraphTree, no_subgraph, subgraph, GraphItems, no_items, item}
use Rattle.room_ast.specs.declared.chart.Code.{Code}
use Rattle.room_ast.specs.declared.chart.Transition.{Transition}
use Rattle.room_ast.specs.declared.chart.TransitionBody.{TransitionBody}
use Rattle.room_ast.specs.declared.model.Dotted.{Dotted}
use Rattle.derived_classes.specs.Codes.{joined_if}

-- The names of a dotted path.
abbrev pub names_of_path : Dotted → List (List ℕ)
names_of_path d = d.first ∷ d.others

-- A refinement as a graph sees it: the names that lead to it from there, its own name last, and what it adds.
pub record Refining : Type 0 where
  pub path : List (List ℕ)
  pub change : ChangeTree

-- ---- the refinements and the other items of a graph

-- An item of a graph, if it is a refinement.
abbrev pub as_refining : GraphItemTree → Option Refining
as_refining (AState s) = None
as_refining (AChoice c) = None
as_refining (APoint p) = None
as_refining (ATransition t) = None
as_refining (ARefinement path change) = Some (record { path = names_of_path path; change = change })

-- The refinements among the items of a graph.
abbrev pub refinements : GraphItems → List Refining
refinements no_items = []
refinements (item i is) = cons_option (as_refining i) (refinements is)

-- An item and then others, without it where it is a refinement.
abbrev pub unless_refining : GraphItemTree → GraphItems → GraphItems
unless_refining (AState s) is = item (AState s) is
unless_refining (AChoice c) is = item (AChoice c) is
unless_refining (APoint p) is = item (APoint p) is
unless_refining (ATransition t) is = item (ATransition t) is
unless_refining (ARefinement path change) is = is

-- The other items of a graph.
abbrev pub other_items : GraphItems → GraphItems
other_items no_items = no_items
other_items (item i is) = unless_refining i (other_items is)

-- The items of a graph and then those of another.
abbrev pub followed_by : GraphItems → GraphItems → GraphItems
followed_by no_items js = js
followed_by (item i is) js = item i (followed_by is js)

-- ---- which refinements are meant for what

-- A refinement as the graph of a state sees it; none where it doesn't lead through the state of this name.
abbrev pub step_into : List ℕ → List (List ℕ) → ChangeTree → Option Refining
step_into name [] change = None
step_into name (first ∷ others) change = if same first name then Some (record { path = others; change = change }) else None

-- The refinements that lead to the state of this name or into it, as the state sees them.
abbrev pub below : List ℕ → List Refining → List Refining
below name rs = filter_map (λ (r : Refining). step_into name r.path r.change) rs

-- The refinements that a state gets: of the states of one name in a graph the first is meant. `earlier` are the names of the states before it.
abbrev pub meant_for : List (List ℕ) → List ℕ → List Refining → List Refining
meant_for earlier name rs = if is_among earlier name then [] else below name rs

-- Whether each state gets the same refinements where these or those names are the names of the states before it.
abbrev pub GivesTheSame : List Refining → List (List ℕ) → List (List ℕ) → Type 0
GivesTheSame rs these those = (name : List ℕ) → meant_for these name rs ≡ meant_for those name rs

-- The names with one more, unless it is one of them.
abbrev pub with_name : List ℕ → List (List ℕ) → List (List ℕ)
with_name name earlier = if is_among earlier name then earlier else earlier ++ name ∷ []

-- A refinement that a state sees, if it is of the state itself.
abbrev pub change_of_state : List (List ℕ) → ChangeTree → Option ChangeTree
change_of_state [] (OfState entry exit sub) = Some (OfState entry exit sub)
change_of_state [] (OfTransition c) = None
change_of_state (name ∷ names) change = None

-- The refinements of a state itself, in their order.
abbrev pub own_changes : List Refining → List ChangeTree
own_changes rs = filter_map (λ (r : Refining). change_of_state r.path r.change) rs

-- What a refinement without names left adds to a transition.
abbrev pub code_of : List (List ℕ) → ChangeTree → Option Code
code_of [] (OfTransition c) = Some c
code_of [] (OfState entry exit sub) = None
code_of (name ∷ names) change = None

abbrev pub codes_of : List Refining → List Code
codes_of rs = filter_map (λ (r : Refining). code_of r.path r.change) rs

-- What is added to the action of a transition of this name, in the order of the refinements.
abbrev pub added_actions : List ℕ → List Refining → List Code
added_actions name rs = codes_of (below name rs)

-- ---- what a state and a transition become

-- A subgraph's items and then those of another.
abbrev pub joined_subgraph : SubgraphTree → SubgraphTree → SubgraphTree
joined_subgraph no_subgraph sub = sub
joined_subgraph (subgraph is) no_subgraph = subgraph is
joined_subgraph (subgraph is) (subgraph js) = subgraph (followed_by is js)

-- The body that a state without one gets. A refinement that adds nothing leaves it without braces.
abbrev pub new_body : Option Code → Option Code → SubgraphTree → BodyTree
new_body None None no_subgraph = no_body
new_body None None (subgraph is) = body None None (subgraph is)
new_body None (Some x) sub = body None (Some x) sub
new_body (Some e) exit sub = body (Some e) exit sub

-- A state's body once it is refined: the base's entry texts and then the refinement's, the refinement's exit texts and then the base's, the base's items and then the refinement's.
abbrev pub widened : ChangeTree → BodyTree → BodyTree
widened (OfTransition c) b = b
widened (OfState entry exit sub) no_body = new_body entry exit sub
widened (OfState entry exit sub) (body e x s) = body (joined_if e entry) (joined_if exit x) (joined_subgraph s sub)

-- A state's body once it is refined by each of these, one after the other.
abbrev pub all_widened : List ChangeTree → BodyTree → BodyTree
all_widened [] b = b
all_widened (c ∷ cs) b = all_widened cs (widened c b)

-- A transition's body once it is refined: the base's action texts and then the refinement's.
abbrev pub acting_also : Code → Option TransitionBody → Option TransitionBody
acting_also c None = Some (record { triggers = None; condition = None; action = Some c })
acting_also c (Some b) = Some (record b { action = joined_if b.action (Some c) })

-- The same of each of these codes, one after the other.
abbrev pub all_acting : List Code → Option TransitionBody → Option TransitionBody
all_acting [] b = b
all_acting (c ∷ cs) b = all_acting cs (acting_also c b)

abbrev pub actions_for : Option (List ℕ) → List Refining → List Code
actions_for None rs = []
actions_for (Some name) rs = added_actions name rs

abbrev pub refined_transition : List Refining → Transition → Transition
refined_transition rs t = record t { body = all_acting (actions_for t.name rs) t.body }

-- The names of the states before an item's place and its own, if it is a state.
abbrev pub with_state : GraphItemTree → List (List ℕ) → List (List ℕ)
with_state (AState (StateOf name b)) earlier = with_name name earlier
with_state (AChoice c) earlier = earlier
with_state (APoint p) earlier = earlier
with_state (ATransition t) earlier = earlier
with_state (ARefinement path change) earlier = earlier

-- A graph with its refinements, from a place on; `earlier` are the names of the states before that place.
abbrev mutual
  pub refined_items : GraphItems → List (List ℕ) → List Refining → GraphItems
  refined_items no_items earlier rs = no_items
  refined_items (item i is) earlier rs = item (refined_item i earlier rs) (refined_items is (with_state i earlier) rs)

  pub refined_item : GraphItemTree → List (List ℕ) → List Refining → GraphItemTree
  refined_item (AState s) earlier rs = AState (refined_state s earlier rs)
  refined_item (AChoice c) earlier rs = AChoice c
  refined_item (APoint p) earlier rs = APoint p
  refined_item (ATransition t) earlier rs = ATransition (refined_transition rs t)
  refined_item (ARefinement path change) earlier rs = ARefinement path change

  pub refined_state : StateTree → List (List ℕ) → List Refining → StateTree
  refined_state (StateOf name b) earlier rs = StateOf name (refined_body b (meant_for earlier name rs))

  pub refined_body : BodyTree → List Refining → BodyTree
  refined_body no_body rs = all_widened (own_changes rs) no_body
  refined_body (body e x s) rs = all_widened (own_changes rs) (body e x (refined_subgraph s rs))

  pub refined_subgraph : SubgraphTree → List Refining → SubgraphTree
  refined_subgraph no_subgraph rs = no_subgraph
  refined_subgraph (subgraph is) rs = subgraph (refined_items is [] rs)

-- A graph with these refinements.
abbrev pub refined : List Refining → GraphItems → GraphItems
refined rs g = refined_items g [] rs

-- ---- what a path names

-- What was found, or else this other one.
abbrev pub found_or : {A : Type 0} → Option A → Option A → Option A
found_or None other = other
found_or (Some x) other = Some x

-- An item, if it is a state of this name.
abbrev pub as_state : List ℕ → GraphItemTree → Option StateTree
as_state name (AState (StateOf n b)) = if same n name then Some (StateOf n b) else None
as_state name (AChoice c) = None
as_state name (APoint p) = None
as_state name (ATransition t) = None
as_state name (ARefinement path change) = None

-- The first state of a name.
abbrev pub first_state : List ℕ → GraphItems → Option StateTree
first_state name no_items = None
first_state name (item i is) = found_or (as_state name i) (first_state name is)

-- The graph of a state; it is empty where the state has no subgraph.
abbrev pub graph_in : StateTree → GraphItems
graph_in (StateOf name no_body) = no_items
graph_in (StateOf name (body entry exit no_subgraph)) = no_items
graph_in (StateOf name (body entry exit (subgraph is))) = is

-- Whether an item is a transition of this name.
abbrev pub is_called : List ℕ → GraphItemTree → Bool
is_called name (AState s) = false
is_called name (AChoice c) = false
is_called name (APoint p) = false
is_called name (ATransition t) = option_map_or (λ n. same n name) t.name false
is_called name (ARefinement path change) = false

-- How many transitions of a graph have a name.
abbrev pub transitions_named : List ℕ → GraphItems → ℕ
transitions_named name no_items = 0
transitions_named name (item i is) = if is_called name i then 1 + transitions_named name is else transitions_named name is

-- Whether names lead from a graph through states; no names do.
abbrev pub names_states : List (List ℕ) → GraphItems → Bool
names_states [] g = true
names_states (name ∷ names) g = option_map_or (λ s. names_states names (graph_in s)) (first_state name g) false

-- Whether names lead from a graph through states, and the last of them then names exactly one transition.
abbrev pub names_transition : List (List ℕ) → GraphItems → Bool
names_transition [] g = false
names_transition (name ∷ []) g = nat_eq (transitions_named name g) 1
names_transition (name ∷ second ∷ names) g = option_map_or (λ s. names_transition (second ∷ names) (graph_in s)) (first_state name g) false

-- Whether a refinement names what a graph has.
abbrev pub is_named : GraphItems → List (List ℕ) → ChangeTree → Bool
is_named g path (OfState entry exit sub) = names_states path g
is_named g path (OfTransition c) = names_transition path g
