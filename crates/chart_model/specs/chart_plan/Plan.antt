-- What a chart has, over any kind of names for its states (S), its nodes (N), its transitions (T), its events (E), its programs (P) and its conditions (C).
use Rattle.std.specs.Prelude.{ℕ, Bool, List, Option}

-- Where a transition leads.
pub data Kind (S T : Type 0) : Type 0 where
  -- a state without a graph: it is entered, and the chain ends
  Simple : (s : S) → Kind S T
  -- the border of a composite state, with the initial transition of its graph
  Border : (s : S) (initial : T) → Kind S T
  -- a choice point: its branches with a condition in order of declaration, and its default
  Choice : (branches : List T) (default : T) → Kind S T
  -- an entry point of a state, with its continuation
  Entry : (s : S) (next : T) → Kind S T
  -- an exit point of a state, with its continuation
  Exit : (s : S) (next : T) → Kind S T

-- The events of a trigger, and its guard, if it has one.
pub record Trigger (E C : Type 0) : Type 0 where
  pub events : List E
  pub guard : Option C

pub record Plan (S N T E P C : Type 0) : Type 0 where
  -- whether two states are the same
  pub same : S → S → Bool
  -- a state and the composite states that have it, from inner to outer
  pub up : S → List S
  -- the actions on entry and on exit
  pub entry : S → P
  pub exit : S → P
  -- the transitions that are tried in a state: those from it, then those from transition points of
  -- the graph that holds it, each in order of declaration
  pub tried : S → List T
  -- the triggers of a transition, in their order
  pub triggers : T → List (Trigger E C)
  -- whether two events are the same
  pub same_event : E → E → Bool
  -- the condition of a branch, if it has one
  pub condition : T → Option C
  pub action : T → P
  pub target : T → N
  pub node : N → Kind S T
  -- more than the longest chain's number of segments
  pub most : ℕ

-- How programs and conditions go: what they change in R.
pub record Running (P C R : Type 0) : Type 0 where
  pub run : P → R → R
  pub test : C → R → Bool × R
