-- What the names of a graph mean.
use Rattle.std.specs.Prelude.{ℕ, List, [], ◌∷◌, Bool, false, Option, Some, None, position, if◌then◌else◌}
use Rattle.std.specs.List.{filter_map, slice_index_or}
use Rattle.std.specs.Option.{option_map_or}
use Rattle.room_ast.specs.declared.chart.Point.{Point}
use Rattle.room_ast.specs.declared.chart.PointKind.{PointKind}
use Rattle.room_ast.specs.declared.chart.PointKind.TheVariants as kinds
use Rattle.room_ast.specs.declared.chart.Source.{Source as SourceTree}
use Rattle.room_ast.specs.declared.chart.Source.TheVariants as sources
use Rattle.room_ast.specs.declared.chart.Target.{Target as TargetTree}
use Rattle.room_ast.specs.declared.chart.Target.TheVariants as targets
use Rattle.room_ast.specs.ChartTree.{GraphItemTree, AState, AChoice, APoint, ATransition, ARefinement, StateTree, StateOf, BodyTree, no_body, body, SubgraphTree, no_subgraph, subgraph, GraphItems, no_items, item}
use Rattle.name_tables.specs.name_numbers.Names.{same, is_among}
use Rattle.chart_model.specs.Chart.{Name, Source, initial, from_state, from_point, from_choice, from_entry, from_exit, Target, to_state, to_choice, to_point, to_entry, to_exit}

-- The names by which the terminals of a graph are told apart: its states, its entry points, and the entry points of the graph of each state, in the states' order.
pub record Around : Type 0 where
  pub states : List Name
  pub entries : List Name
  pub inner : List (List Name)

abbrev pub list_of : GraphItems → List GraphItemTree
list_of no_items = []
list_of (item i is) = i ∷ list_of is

abbrev pub name_of_state : StateTree → Name
name_of_state (StateOf n b) = n

abbrev pub state_name : GraphItemTree → Option Name
state_name (AState s) = Some (name_of_state s)
state_name (AChoice c) = None
state_name (APoint p) = None
state_name (ATransition t) = None
state_name (ARefinement path change) = None

abbrev pub entry_of : PointKind → Name → Option Name
entry_of kinds.Transition n = None
entry_of kinds.Entry n = Some n
entry_of kinds.Exit n = None

abbrev pub entry_name : GraphItemTree → Option Name
entry_name (AState s) = None
entry_name (AChoice c) = None
entry_name (APoint p) = entry_of p.kind p.name
entry_name (ATransition t) = None
entry_name (ARefinement path change) = None

abbrev pub entries_of : List GraphItemTree → List Name
entries_of is = filter_map entry_name is

abbrev pub entries_in : SubgraphTree → List Name
entries_in no_subgraph = []
entries_in (subgraph is) = entries_of (list_of is)

abbrev pub entries_in_body : BodyTree → List Name
entries_in_body no_body = []
entries_in_body (body entry exit sub) = entries_in sub

abbrev pub entries_in_state : StateTree → List Name
entries_in_state (StateOf n b) = entries_in_body b

abbrev pub inner_entries : GraphItemTree → Option (List Name)
inner_entries (AState s) = Some (entries_in_state s)
inner_entries (AChoice c) = None
inner_entries (APoint p) = None
inner_entries (ATransition t) = None
inner_entries (ARefinement path change) = None

abbrev pub around : List GraphItemTree → Around
around is = record { states = filter_map state_name is; entries = entries_of is; inner = filter_map inner_entries is }

-- whether the graph of a state has an entry point of this name
abbrev pub has_entry_inside : Around → Name → Name → Bool
has_entry_inside a p s = option_map_or (λ k. is_among (slice_index_or a.inner k []) p) (position (same s) a.states) false

-- ---- terminals

-- a bare name is a state, or else a choice point; `my` is an entry point, or else a transition point
abbrev pub source_at : Around → TargetTree → Source
source_at a (targets.Bare n) = if is_among a.states n then from_state n else from_choice n
source_at a (targets.Choice c) = from_choice c
source_at a (targets.My p) = if is_among a.entries p then from_entry p else from_point p
source_at a (targets.Of p s) = from_exit p s

abbrev pub source_of : Around → SourceTree → Source
source_of a sources.Initial = initial
source_of a (sources.At t) = source_at a t

-- `my` is an exit point; a point of a state is an entry point, or else a transition point
abbrev pub target_of : Around → TargetTree → Target
target_of a (targets.Bare n) = if is_among a.states n then to_state n else to_choice n
target_of a (targets.Choice c) = to_choice c
target_of a (targets.My p) = to_exit p
target_of a (targets.Of p s) = if has_entry_inside a p s then to_entry p s else to_point p s
