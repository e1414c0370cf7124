-- Refinements that are looked for in graphs, name by name.
use Rattle.std.specs.Prelude.{ℕ, zero, suc, ◌+◌, Bool, nat_eq, ◌&&◌, not, List, [], ◌∷◌, ◌++◌, length, map, position, Option, Some, None, option_map, if◌then◌else◌}
use Rattle.std.specs.List.{list_all, cons_option}
use Rattle.std.specs.Option.{option_and_then, option_map_or}
use Rattle.name_tables.specs.name_numbers.Names.{same, is_among}
use Rattle.room_ast.specs.ChartTree.{GraphItemTree, AState, AChoice, APoint, ATransition, ARefinement, ChangeTree, OfState, OfTransition, StateTree, StateOf, GraphItems, no_items, item}
use Rattle.derived_classes.specs.Refining.{Refining, graph_in, is_named, with_name}

-- ---- the names in a graph

-- An item of a graph, if it is a state.
abbrev pub any_state : GraphItemTree → Option StateTree
any_state (AState s) = Some s
any_state (AChoice c) = None
any_state (APoint p) = None
any_state (ATransition t) = None
any_state (ARefinement path change) = None

-- The states of a graph.
abbrev pub states_in : GraphItems → List StateTree
states_in no_items = []
states_in (item i is) = cons_option (any_state i) (states_in is)

abbrev pub name_of : StateTree → List ℕ
name_of (StateOf name b) = name

-- The names of transitions: all of them, and those that a second one has.
pub record NamesTree : Type 0 where
  pub once : List (List ℕ)
  pub again : List (List ℕ)

-- The names with that of one more transition.
abbrev pub note : List ℕ → NamesTree → NamesTree
note name ts = if is_among ts.once name then record ts { again = with_name name ts.again } else record ts { once = ts.once ++ name ∷ [] }

abbrev pub note_item : GraphItemTree → NamesTree → NamesTree
note_item (AState s) ts = ts
note_item (AChoice c) ts = ts
note_item (APoint p) ts = ts
note_item (ATransition t) ts = option_map_or (λ n. note n ts) t.name ts
note_item (ARefinement path change) ts = ts

abbrev pub note_items : GraphItems → NamesTree → NamesTree
note_items no_items ts = ts
note_items (item i is) ts = note_items is (note_item i ts)

abbrev pub no_names : NamesTree
no_names = record { once = []; again = [] }

-- Whether exactly one transition has a name.
abbrev pub stands_once : NamesTree → List ℕ → Bool
stands_once ts name = is_among ts.once name && not (is_among ts.again name)

-- ---- searches

-- Refinements that are looked for in a graph.
pub record SearchTree : Type 0 where
  pub graph : GraphItems
  pub sought : List Refining

-- Whether a graph has all that these refinements name.
abbrev pub are_named : GraphItems → List Refining → Bool
are_named g rs = list_all (λ (r : Refining). is_named g r.path r.change) rs

abbrev pub all_succeed : List SearchTree → Bool
all_succeed ss = list_all (λ (s : SearchTree). are_named s.graph s.sought) ss

-- The graph of a state, in which nothing is looked for yet.
abbrev pub inside : StateTree → SearchTree
inside s = record { graph = graph_in s; sought = [] }

-- The searches with one more refinement in that at a place.
abbrev pub sought_at : List SearchTree → ℕ → Refining → List SearchTree
sought_at [] k r = []
sought_at (s ∷ ss) zero r = record s { sought = s.sought ++ r ∷ [] } ∷ ss
sought_at (s ∷ ss) (suc k) r = s ∷ sought_at ss k r

abbrev pub sought_in : Option ℕ → Refining → List SearchTree → Option (List SearchTree)
sought_in None r ss = None
sought_in (Some k) r ss = Some (sought_at ss k r)

-- What is looked for in the graphs of states, once a refinement has gone one name further; none where a graph with these names hasn't what it names.
abbrev pub passed : List (List ℕ) → NamesTree → List (List ℕ) → ChangeTree → List SearchTree → Option (List SearchTree)
passed states ts [] (OfState entry exit sub) ss = Some ss
passed states ts [] (OfTransition c) ss = None
passed states ts (name ∷ []) (OfTransition c) ss = if stands_once ts name then Some ss else None
passed states ts (name ∷ []) (OfState entry exit sub) ss = sought_in (position (same name) states) (record { path = []; change = OfState entry exit sub }) ss
passed states ts (name ∷ second ∷ others) change ss = sought_in (position (same name) states) (record { path = second ∷ others; change = change }) ss

abbrev pub all_passed : List (List ℕ) → NamesTree → List Refining → List SearchTree → Option (List SearchTree)
all_passed states ts [] ss = Some ss
all_passed states ts (r ∷ rs) ss = option_and_then (all_passed states ts rs) (passed states ts r.path r.change ss)

-- The searches in the graphs of a graph's states that come of those in the graph.
abbrev pub searched : GraphItems → List Refining → Option (List SearchTree)
searched g rs = all_passed (map name_of (states_in g)) (note_items g no_names) rs (map inside (states_in g))

abbrev pub further : SearchTree → List SearchTree → Option (List SearchTree)
further s next = if nat_eq (length s.sought) 0 then Some next else option_map (λ more. next ++ more) (searched s.graph s.sought)

-- The searches that come of all of these.
abbrev pub next_of : List SearchTree → List SearchTree → Option (List SearchTree)
next_of [] next = Some next
next_of (s ∷ ss) next = option_and_then (next_of ss) (further s next)

-- How much there is to do: what is looked for, and its names.
abbrev pub names_sought : List Refining → ℕ
names_sought [] = 0
names_sought (r ∷ rs) = 1 + length r.path + names_sought rs

abbrev pub effort : List SearchTree → ℕ
effort [] = 0
effort (s ∷ ss) = names_sought s.sought + effort ss

-- The same, and one more where any search is left.
abbrev pub toil : List SearchTree → ℕ
toil [] = 0
toil (s ∷ ss) = 1 + effort (s ∷ ss)
