-- What a chart has to meet, fault by fault.
use Rattle.std.specs.Prelude.{◌≡◌, ◌+◌, ℕ, ◌==◌, ◌&&◌, ◌||◌, nat_le, not, if◌then◌else◌, Bool, true, false, List, [], ◌∷◌, ◌++◌, All, length, map, is_none}
use Rattle.std.specs.List.{list_all, list_any, filter, IsDistinct, Contains}
use Rattle.std.specs.Option.{is_some, option_map_or}
use Rattle.chart_model.specs.Chart.{Name, Path, Source, initial, from_state, from_point, from_choice, from_entry, from_exit, Target, to_state, to_choice, to_point, to_entry, to_exit, Transition, State, PointKind, a_transition_point, an_entry_point, an_exit_point, Point, Graph, Chart}
use Rattle.chart_model.specs.Named.{same_name, graph_at, from, is_initial, is_from_choice, is_from_entry, is_from_exit, has_none, Placed, Node, a_state, a_choice, an_entry, an_exit, node_of}

-- ---- what a graph has

abbrev pub has_state : Graph → Name → Bool
has_state g s = list_any (λ (d : State). same_name d.name s) g.states

abbrev pub has_choice : Graph → Name → Bool
has_choice g c = list_any (same_name c) g.choices

abbrev pub is_kind : PointKind → PointKind → Bool
is_kind a_transition_point a_transition_point = true
is_kind an_entry_point an_entry_point = true
is_kind an_exit_point an_exit_point = true
is_kind a b = false

abbrev pub has_point : PointKind → Graph → Name → Bool
has_point kind g p = list_any (λ (q : Point). is_kind kind q.kind && same_name q.name p) g.points

-- whether the graph of a state of this graph has such a point
abbrev pub has_point_of : Chart → PointKind → Graph → Name → Name → Bool
has_point_of chart kind g p s = has_state g s && option_map_or (λ inner. has_point kind inner p) (graph_at chart (s ∷ g.owner)) false

-- whether a list has nothing
abbrev pub is_nothing : {A : Type 0} → List A → Bool
is_nothing [] = true
is_nothing (x ∷ xs) = false

-- ---- 1: states nest at most 16 deep

abbrev pub most_deep : ℕ
most_deep = 16

abbrev pub is_shallow : Graph → Bool
is_shallow g = nat_le (length g.owner + 1) most_deep || is_nothing g.states

-- ---- 2: names and terminals

-- the names of a graph's states and points
abbrev pub names_in : Graph → List Name
names_in g = map (λ (s : State). s.name) g.states ++ map (λ (p : Point). p.name) g.points

-- a transition begins at what there is
abbrev pub source_is_there : Chart → Graph → Source → Bool
source_is_there chart g initial = true
source_is_there chart g (from_state s) = has_state g s
source_is_there chart g (from_point p) = has_point a_transition_point g p
source_is_there chart g (from_choice c) = has_choice g c
source_is_there chart g (from_entry e) = has_point an_entry_point g e
source_is_there chart g (from_exit x s) = has_point_of chart an_exit_point g x s

-- and leads to what there is
abbrev pub target_is_there : Chart → Graph → Target → Bool
target_is_there chart g (to_state s) = has_state g s
target_is_there chart g (to_choice c) = has_choice g c
target_is_there chart g (to_point p s) = has_point_of chart a_transition_point g p s
target_is_there chart g (to_entry e s) = has_point_of chart an_entry_point g e s
target_is_there chart g (to_exit x) = has_point an_exit_point g x

-- whether a transition from here is triggered by messages
abbrev pub is_triggered : Source → Bool
is_triggered (from_state s) = true
is_triggered (from_point p) = true
is_triggered _ = false

-- whether it is a branch of a choice point
abbrev pub is_branch : Source → Bool
is_branch (from_choice c) = true
is_branch _ = false

-- triggers stand at triggered transitions, at each of them, and conditions at branches alone
abbrev pub has_right_parts : Transition → Bool
has_right_parts t = (if is_triggered t.source then not (is_nothing t.triggers) else is_nothing t.triggers) && (is_branch t.source || is_none t.condition)

abbrev pub is_right_transition : Chart → Graph → Transition → Bool
is_right_transition chart g t = source_is_there chart g t.source && target_is_there chart g t.target && has_right_parts t

-- a point with a continuation has exactly one: an entry point in its graph, an exit point in the graph outside it
abbrev pub goes_on_once : Chart → Path → Point → Bool
goes_on_once chart [] p = is_kind a_transition_point p.kind
goes_on_once chart (s ∷ owner) p = option_kind p.kind
  where
    option_kind : PointKind → Bool
    option_kind a_transition_point = true
    option_kind an_entry_point = length (from (is_from_entry p.name) chart (s ∷ owner)) == 1
    option_kind an_exit_point = length (from (is_from_exit p.name s) chart owner) == 1

pub record HasRightNames (chart : Chart) (g : Graph) : Type 0 where
  pub distinct : IsDistinct same_name (names_in g)
  pub transitions : list_all (is_right_transition chart g) g.transitions ≡ true
  pub points : list_all (goes_on_once chart g.owner) g.points ≡ true

-- ---- 3 and 4: initial transitions

abbrev pub initials_at : Chart → Path → ℕ
initials_at chart path = length (from is_initial chart path)

-- whether a state is composite: it has a graph
abbrev pub is_composite : Chart → Path → Bool
is_composite chart path = is_some (graph_at chart path)

-- a composite state that a transition leads to by its name or by a transition point has an initial transition
abbrev pub begins_inside : Chart → Graph → Target → Bool
begins_inside chart g (to_state s) = not (is_composite chart (s ∷ g.owner)) || nat_le 1 (initials_at chart (s ∷ g.owner))
begins_inside chart g (to_point p s) = nat_le 1 (initials_at chart (s ∷ g.owner))
begins_inside chart g _ = true

-- ---- 5: each choice point has one branch without a condition

abbrev pub has_default : Chart → Graph → Name → Bool
has_default chart g c = length (filter has_none (from (is_from_choice c) chart g.owner)) == 1

-- ---- 6: no circle

-- the transitions that go on at a node at once; none at a state without a graph
abbrev pub onward : Chart → Node → List Placed
onward chart (a_state path) = from is_initial chart path
onward chart (a_choice graph c) = from (is_from_choice c) chart graph
onward chart (an_entry owner e) = from (is_from_entry e) chart owner
onward chart (an_exit [] x) = []
onward chart (an_exit (s ∷ owner) x) = from (is_from_exit x s) chart owner

-- one node leads to another, through one transition or more, with no stop between
pub data LeadsTo (chart : Chart) (m : Node) : Node → Type 0 where
  at_once : (t : Placed) → Contains (onward chart m) t → LeadsTo chart m (node_of t.graph t.transition.target)
  further : (n : Node) (t : Placed) → LeadsTo chart m n → Contains (onward chart n) t → LeadsTo chart m (node_of t.graph t.transition.target)

-- ---- valid charts

pub record IsValid (chart : Chart) : Type 0 where
  pub shallow : list_all is_shallow chart.graphs ≡ true
  pub names : All (HasRightNames chart) chart.graphs
  pub one_initial_at_most : list_all (λ g. nat_le (initials_at chart g.owner) 1) chart.graphs ≡ true
  pub top_initial : initials_at chart [] ≡ 1
  pub inner_initials : list_all (λ (g : Graph). list_all (λ (t : Transition). begins_inside chart g t.target) g.transitions) chart.graphs ≡ true
  pub defaults : list_all (λ (g : Graph). list_all (has_default chart g) g.choices) chart.graphs ≡ true
  pub no_circle : (n : Node) → LeadsTo chart n n → ⊥
