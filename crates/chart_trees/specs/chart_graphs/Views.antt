-- The chart that the code's chart stands for, without where it lies in memory.
use Rattle.std.specs.Prelude.{map, option_map}
use Rattle.room_ast.specs.declared.chart.PointKind.{PointKind as CodeKind}
use Rattle.room_ast.specs.declared.chart.PointKind.TheVariants as kinds
use Rattle.action_program.specs.Numbered.{expr_view, program_view}
use Rattle.chart_model.specs.Chart.{Source, initial, from_state, from_point, from_choice, from_entry, from_exit, Target, to_state, to_choice, to_point, to_entry, to_exit, Transition, State, PointKind, a_transition_point, an_entry_point, an_exit_point, Point, Graph, Chart}
use Rattle.chart_run.specs.chart_tables.Tables.{trigger_view}
use Rattle.chart_trees.specs.declared.chart_graphs.Source.{Source as CodeSource}
use Rattle.chart_trees.specs.declared.chart_graphs.Source.TheVariants as sources
use Rattle.chart_trees.specs.declared.chart_graphs.Target.{Target as CodeTarget}
use Rattle.chart_trees.specs.declared.chart_graphs.Target.TheVariants as targets
use Rattle.chart_trees.specs.declared.chart_graphs.Transition.{Transition as CodeTransition}
use Rattle.chart_trees.specs.declared.chart_graphs.State.{State as CodeState}
use Rattle.chart_trees.specs.declared.chart_graphs.Point.{Point as CodePoint}
use Rattle.chart_trees.specs.declared.chart_graphs.Graph.{Graph as CodeGraph}
use Rattle.chart_trees.specs.declared.chart_graphs.Chart.{Chart as CodeChart}

abbrev pub source_view : CodeSource → Source
source_view sources.Initial = initial
source_view (sources.State s) = from_state s
source_view (sources.Point p) = from_point p
source_view (sources.Choice c) = from_choice c
source_view (sources.Entry e) = from_entry e
source_view (sources.Exit x s) = from_exit x s

abbrev pub target_view : CodeTarget → Target
target_view (targets.State s) = to_state s
target_view (targets.Choice c) = to_choice c
target_view (targets.Point p s) = to_point p s
target_view (targets.Entry e s) = to_entry e s
target_view (targets.Exit x) = to_exit x

abbrev pub transition_view : CodeTransition → Transition
transition_view t = record {
  source = source_view t.source;
  target = target_view t.target;
  triggers = map trigger_view t.triggers.items;
  condition = option_map expr_view t.condition;
  action = program_view t.action;
}

abbrev pub state_view : CodeState → State
state_view s = record { name = s.name; entry = program_view s.entry; exit = program_view s.exit }

abbrev pub kind_view : CodeKind → PointKind
kind_view kinds.Transition = a_transition_point
kind_view kinds.Entry = an_entry_point
kind_view kinds.Exit = an_exit_point

abbrev pub point_view : CodePoint → Point
point_view p = record { kind = kind_view p.kind; name = p.name }

abbrev pub graph_view : CodeGraph → Graph
graph_view g = record {
  owner = g.owner;
  states = map state_view g.states.items;
  points = map point_view g.points.items;
  choices = g.choices;
  transitions = map transition_view g.transitions.items;
}

abbrev pub chart_view : CodeChart → Chart
chart_view c = record { graphs = map graph_view c.graphs.items; values = c.values.items }
