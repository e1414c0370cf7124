-- The meaning of a chart by names: the plan that it is.
use Rattle.std.specs.Prelude.{ℕ, suc, ◌+◌, ◌==◌, Bool, true, false, not, ◌&&◌, if◌then◌else◌, List, [], ◌∷◌, ◌++◌, Option, Some, None, length, map, sum, nat_eq}
use Rattle.std.specs.List.{filter}
use Rattle.std.specs.Option.{is_some, option_map_or}
use lib.Pointwise.{pointwise}
use Rattle.action_program.specs.Numbered.{ExprTree, Stmts, no_stmt}
use Rattle.chart_model.specs.chart_plan.Plan.{Kind, Simple, Border, Choice, Entry, Exit, Plan}
use Rattle.chart_model.specs.Chart.{Name, Path, Event, Source, initial, from_state, from_point, from_choice, from_entry, from_exit, Target, to_state, to_choice, to_point, to_entry, to_exit, Transition, State, Graph, Chart}

-- whether two names are the same
abbrev pub same_name : Name → Name → Bool
same_name = pointwise nat_eq

-- whether two paths are the same
abbrev pub same_path : Path → Path → Bool
same_path = pointwise same_name

-- whether two events are the same
abbrev pub same_event : Event → Event → Bool
same_event a b = a.port == b.port && a.signal == b.signal

-- the first item that passes a test
abbrev pub first : {A : Type 0} → (A → Bool) → List A → Option A
first test [] = None
first test (x ∷ xs) = if test x then Some x else first test xs

-- a transition with the graph that it stands in
pub record Placed : Type 0 where
  pub graph : Path
  pub transition : Transition

-- what a transition leads to
pub data Node : Type 0 where
  a_state : (path : Path) → Node
  a_choice : (graph : Path) (c : Name) → Node
  an_entry : (owner : Path) (e : Name) → Node
  an_exit : (owner : Path) (x : Name) → Node

-- ---- what a chart has under a path

-- the graph of the state at a path; at [] the top graph
abbrev pub graph_at : Chart → Path → Option Graph
graph_at chart path = first (λ g. same_path g.owner path) chart.graphs

-- the state at a path
abbrev pub state_at : Chart → Path → Option State
state_at chart [] = None
state_at chart (s ∷ owner) = option_map_or (λ (g : Graph). first (λ d. same_name d.name s) g.states) (graph_at chart owner) None

-- a state and those that have it, from inner to outer
abbrev pub outward : Path → List Path
outward [] = []
outward (s ∷ owner) = (s ∷ owner) ∷ outward owner

-- the transitions of the graph at a path whose sources pass a test, in order of declaration
abbrev pub from : (Source → Bool) → Chart → Path → List Placed
from test chart path =
    map (λ t. record { graph = path; transition = t }) (filter (λ (t : Transition). test t.source) (option_map_or (λ (g : Graph). g.transitions) (graph_at chart path) []))

-- ---- kinds of sources

abbrev pub is_initial : Source → Bool
is_initial initial = true
is_initial _ = false

abbrev pub is_from_state : Name → Source → Bool
is_from_state s (from_state r) = same_name r s
is_from_state s _ = false

abbrev pub is_from_point : Source → Bool
is_from_point (from_point p) = true
is_from_point _ = false

abbrev pub is_from_choice : Name → Source → Bool
is_from_choice c (from_choice d) = same_name d c
is_from_choice c _ = false

abbrev pub is_from_entry : Name → Source → Bool
is_from_entry e (from_entry d) = same_name d e
is_from_entry e _ = false

abbrev pub is_from_exit : Name → Name → Source → Bool
is_from_exit x s (from_exit y r) = same_name y x && same_name r s
is_from_exit x s _ = false

-- ---- the plan

-- In a state its own transitions are tried first, then those from transition points of the graph that holds it.
abbrev pub tried : Chart → Path → List Placed
tried chart [] = []
tried chart (s ∷ owner) = from (is_from_state s) chart owner ++ from is_from_point chart owner

-- what a target of a transition in a graph stands for
abbrev pub node_of : Path → Target → Node
node_of graph (to_state s) = a_state (s ∷ graph)
node_of graph (to_choice c) = a_choice graph c
node_of graph (to_point p s) = a_state (s ∷ graph)
node_of graph (to_entry e s) = an_entry (s ∷ graph) e
node_of graph (to_exit x) = an_exit graph x

-- what the first of some transitions makes of a place; a state where there is none
abbrev pub by_first : Path → (Placed → Kind Path Placed) → List Placed → Kind Path Placed
by_first path kind [] = Simple path
by_first path kind (t ∷ ts) = kind t

abbrev pub has_condition : Placed → Bool
has_condition t = is_some t.transition.condition

abbrev pub has_none : Placed → Bool
has_none t = not (has_condition t)

-- the state that has an exit point is left, and the chain goes on in the graph outside it
abbrev pub outside : Chart → Path → Name → Kind Path Placed
outside chart [] x = Simple []
outside chart (s ∷ owner) x = by_first (s ∷ owner) (λ t. Exit (s ∷ owner) t) (from (is_from_exit x s) chart owner)

-- what a node is
abbrev pub kind_of : Chart → Node → Kind Path Placed
kind_of chart (a_state path) = by_first path (λ t. Border path t) (from is_initial chart path)
kind_of chart (a_choice graph c) =
    let branches = from (is_from_choice c) chart graph in
    by_first graph (λ d. Choice (filter has_condition branches) d) (filter has_none branches)
kind_of chart (an_entry owner e) = by_first owner (λ t. Entry owner t) (from (is_from_entry e) chart owner)
kind_of chart (an_exit owner x) = outside chart owner x

-- how many nodes a graph has
abbrev pub nodes_in : Graph → ℕ
nodes_in g = length g.states + length g.points + length g.choices

abbrev pub plan_of : Chart → Plan Path Node Placed Event Stmts ExprTree
plan_of chart = record {
  same = same_path;
  up = outward;
  entry = λ path. option_map_or (λ (s : State). s.entry) (state_at chart path) no_stmt;
  exit = λ path. option_map_or (λ (s : State). s.exit) (state_at chart path) no_stmt;
  tried = tried chart;
  triggers = λ t. t.transition.triggers;
  same_event = same_event;
  condition = λ t. t.transition.condition;
  action = λ t. t.transition.action;
  target = λ t. node_of t.graph t.transition.target;
  node = kind_of chart;
  most = suc (sum (map nodes_in chart.graphs));
}
