-- What the actors of a model do by the charts of their classes, and runs over charts.
-- An actor between two messages is its class's chart and where it stands in it: the path of the
-- state at which its active path ends, the histories of its composite states, its attributes. It
-- starts and handles messages as `chart_model` says (`starts`, `handles`). No tables are met.
use Rattle.std.specs.Prelude.{◌≡◌, ℕ, List, [], ◌∷◌, length, Option, Some, None, option_map, option_and_then, slice_get}
use Rattle.std.specs.Option.{unwrap_or}
use Rattle.room_kinds.specs.declared.message.Msg.{Msg}
use Rattle.room_kinds.specs.declared.numbers.Incarnation.{Incarnation}
use Rattle.journal.specs.declared.entry.Journals.{Journals}
use Rattle.inject_reader.specs.declared.inject_lines.accepted.Line.{Line}
use Rattle.room_wiring.specs.declared.tables.Tables.{Tables as Wiring}
use Rattle.chart_model.specs.Acting.{Standing, Acted, handles, starts}
use Rattle.chart_model.specs.Chart.{Path, Chart}
use Rattle.chart_model.specs.States.{state_number}
use Rattle.chart_compile.specs.chart_parts.Compiled.{Compiles}
use Rattle.chart_run.specs.Machines.{moment_of, moment_at_start, event_of}
use Rattle.chart_run.specs.declared.chart_tables.tables.Tables.{Tables}
use Rattle.actor_duties.specs.Words.{class_number}
use Rattle.actor_world.specs.Behaviour.{Behaviour, Begun, Outcome, Unhandled}
use Rattle.actor_world.specs.Journals.{lines_of, IsPrompt}
use Rattle.chart_behaviour.specs.ModelCharts.{handling_of}
use Rattle.controller_actors.specs.declared.plant.Plant.{Plant}
use Rattle.model_run.specs.part_posts.Items.{items_of}
use Rattle.model_run.specs.run_ends.Runs.{journal_of, IsRun}
use Rattle.law_charts.specs.Alike.{IsRunOf}

-- an actor between two messages, by names
pub record ChartActor : Type 0 where
  pub chart : Chart
  pub at : Standing Path

-- nothing where its class has no chart
abbrev pub Actor : Type 0
Actor = Option ChartActor

-- the chart of a class, if it has one
abbrev pub class_chart : List (Option Chart) → ℕ → Option Chart
class_chart charts c = option_and_then (λ (k : Option Chart). k) (slice_get charts c)

-- the chart of the class of a slot
unfoldable pub chart_at : Wiring → List (Option Chart) → ℕ → Option Chart
chart_at w charts slot = option_and_then (class_chart charts) (class_number w slot)

-- an actor whose active path ends at this state after a chain
abbrev pub stand_at : Chart → Acted Path → Path → ChartActor
stand_at chart a leaf = record { chart = chart; at = record { leaf = leaf; past = a.past; vars = a.vars } }

-- an actor after a chain
abbrev pub stands_after : Chart → Acted Path → Actor
stands_after chart a = option_map (stand_at chart a) a.leaf

-- an actor starts by its chart; without a chart it does nothing
abbrev pub begins : Incarnation → Option Chart → Begun Actor
begins x None = record { machine = None; notes = []; commands = [] }
begins x (Some chart) =
    let a = starts chart (moment_at_start x) in record { machine = stands_after chart a; notes = a.notes; commands = a.commands }

-- an actor after a message
abbrev pub came_to : Chart → Acted Path → Outcome Actor
came_to chart a = record { machine = stands_after chart a; result = handling_of a.result; notes = a.notes; commands = a.commands }

-- an actor that handles nothing
abbrev pub passes_over : Actor → Outcome Actor
passes_over actor = record { machine = actor; result = Unhandled; notes = []; commands = [] }

-- an actor handles a message by its chart; without a chart it handles nothing
abbrev pub handles_by_chart : Incarnation → Msg → Option Chart → Actor → Outcome Actor
handles_by_chart x m None actor = passes_over actor
handles_by_chart x m (Some chart) None = passes_over None
handles_by_chart x m (Some chart) (Some actor) = came_to chart (handles chart (moment_of x m) (event_of m) actor.at)

-- the number of an actor's state among the states of its chart, 65,535 where its class has no chart
abbrev pub number_of : Actor → ℕ
number_of None = 65535
number_of (Some actor) = unwrap_or (state_number actor.chart actor.at.leaf) 65535

-- the behaviour of a model with this wiring, whose classes have these charts, in order of their numbers
abbrev pub behaviour_by_charts : Wiring → List (Option Chart) → Behaviour Actor
behaviour_by_charts w charts = record {
  begin = λ x. begins x (chart_at w charts x.slot.0);
  handle = λ x actor m. handles_by_chart x m (chart_at w charts x.slot.0) actor;
  state = number_of;
}

-- the tables of a class are those of its chart (`Compiles`); a class without a chart has none
abbrev pub ShowsChart : Option Tables → Option Chart → Type 0
ShowsChart None None = Unit {0}
ShowsChart (Some v) None = ⊥
ShowsChart None (Some chart) = ⊥
ShowsChart (Some v) (Some chart) = Compiles v chart

-- class by class, these tables are those of these charts
abbrev pub ShowCharts : List (Option Tables) → List (Option Chart) → Type 0
ShowCharts [] [] = Unit {0}
ShowCharts (v ∷ vs) [] = ⊥
ShowCharts [] (c ∷ cs) = ⊥
ShowCharts (v ∷ vs) (c ∷ cs) = ShowsChart v c × ShowCharts vs cs

-- these journals are those of a run of a model with this wiring and these charts over these lines
pub record IsRunByCharts (w : Wiring) (charts : List (Option Chart)) (lines : List Line) (fuel : ℕ) (j : Journals) : Type 0 where
  pub count : length j.controllers ≡ length w.controllers
  pub run : IsRunOf (behaviour_by_charts w charts) w (lines_of (items_of w lines)) (items_of w lines) fuel (journal_of j) j.left j.unposted j.done
  pub prompt : IsPrompt (length w.controllers) (journal_of j)

-- a run over the tables of a plant is a run over the charts that they show
abbrev pub RunsAreByCharts : Type 0
RunsAreByCharts =
    (plant : Plant) (charts : List (Option Chart)) (lines : List Line) (fuel : ℕ) (j : Journals)
    → ShowCharts plant.tables.items charts → IsRun plant lines fuel j → IsRunByCharts plant.wiring charts lines fuel j
