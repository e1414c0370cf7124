-- Tables as a plan over numbers.
use Rattle.std.specs.Prelude.{ℕ, suc, ◌<◌, ◌≤◌, List, [], ◌∷◌, ◌++◌, Option, Some, None, length, map, option_map, nat_eq, slice_get}
use Rattle.std.specs.List.{AllByRecursion}
use Rattle.std.specs.Option.{option_map_or}
use Rattle.action_program.specs.Numbered.{ExprTree, expr_view, Stmts, no_stmt, program_view}
use Rattle.chart_model.specs.chart_plan.Plan.{Kind, Simple, Border, Choice, Entry, Exit, Trigger, Plan}
use Rattle.chart_model.specs.Chart.{Event}
use Rattle.chart_model.specs.Named.{same_event}
use Rattle.chart_run.specs.declared.chart_tables.tables.Arrow.{Arrow}
use Rattle.chart_run.specs.declared.chart_tables.tables.Event.{Event as CodeEvent}
use Rattle.chart_run.specs.declared.chart_tables.tables.Node.{Node}
use Rattle.chart_run.specs.declared.chart_tables.tables.Node.TheVariants as nodes
use Rattle.chart_run.specs.declared.chart_tables.tables.Row.{Row}
use Rattle.chart_run.specs.declared.chart_tables.tables.Tables.{Tables}
use Rattle.chart_run.specs.declared.chart_tables.tables.Trigger.{Trigger as CodeTrigger}

-- ---- what rows hold, without where it lies in memory

abbrev pub event_view : CodeEvent → Event
event_view e = record { port = e.port; signal = e.signal }

abbrev pub trigger_view : CodeTrigger → Trigger Event ExprTree
trigger_view t = record { events = map event_view t.events.items; guard = option_map expr_view t.guard }

-- a transition of the tables
pub record ArrowTree : Type 0 where
  pub triggers : List (Trigger Event ExprTree)
  pub condition : Option ExprTree
  pub action : Stmts
  pub target : ℕ

abbrev pub arrow_view : Arrow → ArrowTree
arrow_view a = record {
  triggers = map trigger_view a.triggers.items;
  condition = option_map expr_view a.condition;
  action = program_view a.action;
  target = a.target;
}

abbrev pub arrow_views : List Arrow → List ArrowTree
arrow_views arrows = map arrow_view arrows

abbrev pub kind : Node → Kind ℕ ArrowTree
kind (nodes.Simple s) = Simple s
kind (nodes.Border s t) = Border s (arrow_view t)
kind (nodes.Choice ts t) = Choice (arrow_views ts.items) (arrow_view t)
kind (nodes.Entry s t) = Entry s (arrow_view t)
kind (nodes.Exit s t) = Exit s (arrow_view t)

-- ---- the plan

abbrev pub row_at : Tables → ℕ → Option Row
row_at v s = slice_get v.states.items s

abbrev pub own_at : Tables → ℕ → List ArrowTree
own_at v s = option_map_or (λ (r : Row). arrow_views r.own.items) (row_at v s) []

abbrev pub graph_arrows : Tables → ℕ → List ArrowTree
graph_arrows v g = option_map_or (λ arrows. arrow_views arrows.items) (slice_get v.graphs.items g) []

-- the transitions from transition points of the graph that holds a state
abbrev pub shared_at : Tables → ℕ → List ArrowTree
shared_at v s = option_map_or (λ (r : Row). graph_arrows v r.graph) (row_at v s) []

-- the numbers of a state and of those that have it
abbrev pub up_at : Tables → ℕ → List ℕ
up_at v s = option_map_or (λ (r : Row). r.up.items) (row_at v s) []

-- the plan of tables; what isn't in them is a state without actions
abbrev pub plan : Tables → Plan ℕ ℕ ArrowTree Event Stmts ExprTree
plan v = record {
  same = nat_eq;
  up = up_at v;
  entry = λ s. option_map_or (λ (r : Row). program_view r.entry) (row_at v s) no_stmt;
  exit = λ s. option_map_or (λ (r : Row). program_view r.exit) (row_at v s) no_stmt;
  tried = λ s. own_at v s ++ shared_at v s;
  triggers = λ t. t.triggers;
  same_event = same_event;
  condition = λ t. t.condition;
  action = λ t. t.action;
  target = λ t. t.target;
  node = λ n. option_map_or kind (slice_get v.nodes.items n) (Simple 0);
  most = suc (length v.nodes.items);
}

-- ---- sound tables

-- a transition that may follow the node n, of so many, leads to a lower one
pub record Follows (count n : ℕ) (t : ArrowTree) : Type 0 where
  pub lower : t.target < n
  pub known : t.target < count

abbrev pub LeadsLower : ℕ → ℕ → Kind ℕ ArrowTree → Type 0
LeadsLower count n (Simple s) = Unit {0}
LeadsLower count n (Border s t) = Follows count n t
LeadsLower count n (Choice ts t) = AllByRecursion (Follows count n) ts × Follows count n t
LeadsLower count n (Entry s t) = Follows count n t
LeadsLower count n (Exit s t) = Follows count n t

-- each state's line of states is in the tables, and nodes lead to lower nodes
pub record IsSound (v : Tables) : Type 0 where
  pub few : length v.states.items ≤ 65535
  pub lines : (s : ℕ) → AllByRecursion (λ q. q < length v.states.items) (up_at v s)
  pub lower : (n : ℕ) → LeadsLower (length v.nodes.items) n ((plan v).node n)
