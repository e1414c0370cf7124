-- A chart by names: ROOM's state machine of an actor class, its programs bound to the class.
use Rattle.std.specs.Prelude.{ℕ, ℤ, List, Option}
use Rattle.action_program.specs.Numbered.{ExprTree, Stmts}
use Rattle.chart_model.specs.chart_plan.Plan.{Trigger}

-- the bytes of a name
abbrev pub Name : Type 0
Name = List ℕ

-- A state by its names, from its own to that of the outermost state. The path of an active state ends
-- at a state without a graph.
abbrev pub Path : Type 0
Path = List Name

-- a message of a port, both by number
pub record Event : Type 0 where
  pub port : ℕ
  pub signal : ℕ

-- where a transition of a graph begins
pub data Source : Type 0 where
  initial : Source
  from_state : (s : Name) → Source
  -- a transition point of the graph
  from_point : (p : Name) → Source
  from_choice : (c : Name) → Source
  -- an entry point of the graph
  from_entry : (e : Name) → Source
  -- an exit point of the graph of a state
  from_exit : (x s : Name) → Source

-- where it leads
pub data Target : Type 0 where
  to_state : (s : Name) → Target
  to_choice : (c : Name) → Target
  -- a transition point of the graph of a state
  to_point : (p s : Name) → Target
  -- an entry point of the graph of a state
  to_entry : (e s : Name) → Target
  -- an exit point of the graph itself
  to_exit : (x : Name) → Target

-- A transition without a program has the empty one. Only branches of choice points have conditions.
pub record Transition : Type 0 where
  pub source : Source
  pub target : Target
  pub triggers : List (Trigger Event ExprTree)
  pub condition : Option ExprTree
  pub action : Stmts

-- a state with its actions on entry and on exit
pub record State : Type 0 where
  pub name : Name
  pub entry : Stmts
  pub exit : Stmts

-- a point of a graph, of one of three kinds
pub data PointKind : Type 0 where
  a_transition_point : PointKind
  an_entry_point : PointKind
  an_exit_point : PointKind

pub record Point : Type 0 where
  pub kind : PointKind
  pub name : Name

-- The graph of the state at owner; the top graph's owner is [].
pub record Graph : Type 0 where
  pub owner : Path
  pub states : List State
  pub points : List Point
  pub choices : List Name
  pub transitions : List Transition

-- the graphs, each before those of its states, and the initial values of the class's attributes
pub record Chart : Type 0 where
  pub graphs : List Graph
  pub values : List ℤ
