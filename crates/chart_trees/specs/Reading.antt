-- The chart that a text writes, and how its programs are read in the order of the text.
use Rattle.std.specs.Prelude.{ℕ, true, List, [], ◌∷◌, ◌++◌, map, Option, Some, None}
use Rattle.std.specs.Option.{option_map_or}
use Rattle.room_ast.specs.declared.chart.Code.{Code}
use Rattle.room_ast.specs.declared.chart.Point.{Point as PointTree}
use Rattle.room_ast.specs.declared.chart.Transition.{Transition as TransitionTree}
use Rattle.room_ast.specs.declared.chart.TransitionBody.{TransitionBody}
use Rattle.room_ast.specs.declared.chart.Triggers.{Triggers}
use Rattle.room_ast.specs.declared.scope.Scope.{Scope}
use Rattle.room_ast.specs.declared.scope.ScopeAttribute.{ScopeAttribute}
use Rattle.room_ast.specs.ChartTree.{GraphItemTree, AState, AChoice, APoint, ATransition, ARefinement, StateTree, StateOf, BodyTree, no_body, body, SubgraphTree, no_subgraph, subgraph, GraphItems, no_items, item}
use Rattle.action_program.specs.Numbered.{no_stmt}
use Rattle.chart_model.specs.Chart.{Name, Path, Transition, State, Point, Graph, Chart}
use Rattle.chart_trees.specs.chart_graphs.Views.{kind_view}
use Rattle.chart_trees.specs.chart_codes.Codes.{guard_of, action_of}
use Rattle.chart_trees.specs.chart_codes.Events.{triggers_of, trigger_list}
use Rattle.chart_trees.specs.chart_codes.Progress.{Progress, after_action, after_guard, after_triggers}
use Rattle.chart_trees.specs.Around.{Around, around, list_of, source_of, target_of}

-- ---- transitions

abbrev pub triggers_in : Option TransitionBody → Option Triggers
triggers_in None = None
triggers_in (Some b) = b.triggers

abbrev pub condition_in : Option TransitionBody → Option Code
condition_in None = None
condition_in (Some b) = b.condition

abbrev pub action_in : Option TransitionBody → Option Code
action_in None = None
action_in (Some b) = b.action

-- the guards of a transition and its condition are read before its action
abbrev pub before_action : Scope → Progress → Option TransitionBody → Progress
before_action scope come b = after_guard scope (after_triggers scope come (trigger_list (triggers_in b))) (condition_in b)

abbrev pub after_transition : Scope → Progress → Option TransitionBody → Progress
after_transition scope come b = after_action scope (before_action scope come b) (action_in b)

abbrev pub transition_of : Scope → Around → Progress → TransitionTree → Transition
transition_of scope a come t = record {
  source = source_of a t.source;
  target = target_of a t.target;
  triggers = triggers_of scope (triggers_in t.body);
  condition = guard_of scope (condition_in t.body);
  action = action_of scope (before_action scope come t.body).names (action_in t.body);
}

abbrev pub point_of : PointTree → Point
point_of p = record { kind = kind_view p.kind; name = p.name }

-- ---- graphs

-- The parts of a graph that were read, the graphs of its states, and how far reading has come.
pub record Piece : Type 0 where
  pub states : List State
  pub points : List Point
  pub choices : List Name
  pub transitions : List Transition
  pub inner : List Graph
  pub come : Progress

abbrev pub begun : Progress → Piece
begun come = record { states = []; points = []; choices = []; transitions = []; inner = []; come = come }

-- a graph, and behind it those of its states
abbrev pub graphs_of : Path → Piece → List Graph
graphs_of owner p = record { owner = owner; states = p.states; points = p.points; choices = p.choices; transitions = p.transitions } ∷ p.inner

abbrev pub state_of : Scope → Progress → Name → Option Code → Option Code → State
state_of scope come n entry exit = record {
  name = n;
  entry = action_of scope come.names entry;
  exit = action_of scope (after_action scope come entry).names exit;
}

-- A state is read before its own graph: its actions on entry and on exit.
abbrev pub with_actions : Scope → Name → Option Code → Option Code → Piece → Piece
with_actions scope n entry exit p = record p {
  states = p.states ++ state_of scope p.come n entry exit ∷ [];
  come = after_action scope (after_action scope p.come entry) exit;
}

abbrev pub with_transition : Scope → Around → TransitionTree → Piece → Piece
with_transition scope a t p = record p { transitions = p.transitions ++ transition_of scope a p.come t ∷ []; come = after_transition scope p.come t.body }

abbrev pub with_inner : Path → Piece → Piece → Piece
with_inner owner q p = record p { inner = p.inner ++ graphs_of owner q; come = q.come }

-- What is read with an item more, or with items more, in the order of the text.
abbrev mutual
  pub with_item : Scope → GraphItemTree → Around → Path → Piece → Piece
  with_item scope (AState s) a owner p = with_state scope s owner p
  with_item scope (AChoice c) a owner p = record p { choices = p.choices ++ c.name ∷ [] }
  with_item scope (APoint q) a owner p = record p { points = p.points ++ point_of q ∷ [] }
  with_item scope (ATransition t) a owner p = with_transition scope a t p
  with_item scope (ARefinement path change) a owner p = p

  pub with_state : Scope → StateTree → Path → Piece → Piece
  with_state scope (StateOf n b) owner p = with_body scope b n owner p

  pub with_body : Scope → BodyTree → Name → Path → Piece → Piece
  with_body scope no_body n owner p = with_actions scope n None None p
  with_body scope (body entry exit sub) n owner p = with_subgraph scope sub (n ∷ owner) (with_actions scope n entry exit p)

  pub with_subgraph : Scope → SubgraphTree → Path → Piece → Piece
  with_subgraph scope no_subgraph owner p = p
  with_subgraph scope (subgraph is) owner p = with_inner owner (with_items scope is (around (list_of is)) owner (begun p.come)) p

  pub with_items : Scope → GraphItems → Around → Path → Piece → Piece
  with_items scope no_items a owner p = p
  with_items scope (item i is) a owner p = with_items scope is a owner (with_item scope i a owner p)

-- a graph, read whole
abbrev pub piece_of : Scope → GraphItems → Path → Progress → Piece
piece_of scope is owner come = with_items scope is (around (list_of is)) owner (begun come)

-- ---- charts

-- before a class is read, where these are the service names of the classes before it
abbrev pub at_first : List Name → Progress
at_first names = record { events_fit = true; names = Some names }

-- what reading has met at the end of a class's text
unfoldable pub reading : Scope → List Name → GraphItems → Progress
reading scope names is = (piece_of scope is [] (at_first names)).come

-- the chart that a text writes
unfoldable pub chart_of : Scope → List Name → GraphItems → Chart
chart_of scope names is = record {
  graphs = graphs_of [] (piece_of scope is [] (at_first names));
  values = map (λ (a : ScopeAttribute). a.initial) scope.attributes.items;
}
