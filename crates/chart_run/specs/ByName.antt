-- Machines, by the names of the chart that their tables show.
use Rattle.std.specs.Prelude.{◌≡◌, ℕ, ◌<◌, List, Option, Some, None, length, slice_index_or}
use Rattle.room_kinds.specs.declared.message.Msg.{Msg}
use Rattle.room_kinds.specs.declared.numbers.Incarnation.{Incarnation}
use Rattle.action_program.specs.declared.moment.Effects.{Effects}
use Rattle.chart_model.specs.chart_plan.Same.{Maybe, SamePlan}
use Rattle.chart_model.specs.Acting.{Standing, Acted, Handled, handles, starts_by}
use Rattle.chart_model.specs.Chart.{Path, Chart}
use Rattle.chart_model.specs.Named.{Node, Placed, node_of, plan_of}
use Rattle.chart_run.specs.chart_tables.Tables.{ArrowTree, arrow_view, plan}
use Rattle.chart_run.specs.declared.chart_tables.tables.Tables.{Tables}
use Rattle.chart_run.specs.Machines.{moment_of, moment_at_start, event_of, result_view, acted_of, standing_of}
use Rattle.chart_run.specs.declared.machine.Machine.{Machine}
use Rattle.chart_run.specs.declared.outcome.Outcome.{Outcome}

-- what the numbers of tables stand for
pub record Names : Type 0 where
  pub paths : ℕ → Path
  pub nodes : ℕ → Node

-- the number s, of so many, stands for the state at a path
pub record IsPath (count : ℕ) (names : Names) (s : ℕ) (path : Path) : Type 0 where
  pub known : s < count
  pub is : names.paths s ≡ path

-- the number n stands for a node
pub record IsNode (names : Names) (n : ℕ) (node : Node) : Type 0 where
  pub is : names.nodes n ≡ node

-- a transition of the tables is one of the chart
pub record IsTransition (names : Names) (a : ArrowTree) (t : Placed) : Type 0 where
  pub triggers : a.triggers ≡ t.transition.triggers
  pub condition : a.condition ≡ t.transition.condition
  pub action : a.action ≡ t.transition.action
  pub target : IsNode names a.target (node_of t.graph t.transition.target)

abbrev pub state_count : Tables → ℕ
state_count v = length v.states.items

-- the tables are those of a chart, up to names
abbrev pub Shows : Tables → Names → Chart → Type 0
Shows v names chart = SamePlan (IsPath (state_count v) names) (IsNode names) (IsTransition names) (plan v) (plan_of chart)

-- histories are the same
abbrev pub SamePast : ℕ → Names → (ℕ → Option ℕ) → (Path → Option Path) → Type 0
SamePast count names past named = (s : ℕ) (path : Path) → IsPath count names s path → Maybe (IsPath count names) (past s) (named path)

-- an actor, by numbers and by names
pub record IsStanding (count : ℕ) (names : Names) (m : Standing ℕ) (actor : Standing Path) : Type 0 where
  pub leaf : IsPath count names m.leaf actor.leaf
  pub past : SamePast count names m.past actor.past
  pub vars : m.vars ≡ actor.vars

-- what was done, by numbers and by names
pub record IsActed (count : ℕ) (names : Names) (a : Acted ℕ) (b : Acted Path) : Type 0 where
  pub result : a.result ≡ b.result
  pub leaf : Maybe (IsPath count names) a.leaf b.leaf
  pub past : SamePast count names a.past b.past
  pub vars : a.vars ≡ b.vars
  pub notes : a.notes ≡ b.notes
  pub commands : a.commands ≡ b.commands

-- a message was handled as the chart says that the tables show
pub record ActsAsChart (v : Tables) (old new : Machine) (m : Msg) (outcome : Outcome) : Type 0 where
  pub as_chart : (chart : Chart) (names : Names) (actor : Standing Path) → Shows v names chart → IsStanding (state_count v) names (standing_of old) actor
      → IsActed (state_count v) names (acted_of (result_view outcome.result) new outcome.effects) (handles chart (moment_of old.me m) (event_of m) actor)

-- a machine started as the chart says, whose initial transition is that of the tables
pub record StartsAsChart (v : Tables) (me : Incarnation) (m : Machine) (effects : Effects) : Type 0 where
  pub as_chart : (chart : Chart) (names : Names) (t : Placed) → Shows v names chart → IsTransition names (arrow_view v.initial) t → v.values.items ≡ chart.values
      → IsActed (state_count v) names (acted_of Handled m effects) (starts_by (plan_of chart) (moment_at_start me) t chart.values)
