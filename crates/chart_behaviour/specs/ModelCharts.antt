-- What the actors of a model do by the tables of their classes.
-- `behaviour_of`, the behaviour of a model: an actor between two messages is a standing of its
-- class's tables, or nothing where its class has no chart; it starts and handles messages by
-- `starts_by` and `handles_by` of `chart_model` over these tables; the number of its state is that
-- of the state at which its active path ends, 65,535 without a chart.
use Rattle.std.specs.Prelude.{ℕ, List, [], Option, Some, None, option_map, option_and_then, slice_get}
use Rattle.room_kinds.specs.declared.message.Msg.{Msg}
use Rattle.room_kinds.specs.declared.numbers.Incarnation.{Incarnation}
use Rattle.room_wiring.specs.declared.tables.Tables.{Tables as Wiring}
use Rattle.chart_model.specs.Acting.{Standing, Result, Acted, handles_by, starts_by}
use Rattle.chart_model.specs.Acting as acting
use Rattle.chart_run.specs.chart_tables.Tables.{plan, arrow_view}
use Rattle.chart_run.specs.declared.chart_tables.tables.Tables.{Tables}
use Rattle.chart_run.specs.Machines.{moment_of, moment_at_start, event_of}
use Rattle.actor_duties.specs.Words.{class_number}
use Rattle.actor_world.specs.Behaviour.{Behaviour, Begun, Outcome, Handling, Handled, Deferred, Unhandled}

-- an actor between two messages; nothing where its class has no chart
abbrev pub Actor : Type 0
Actor = Option (Standing ℕ)

-- the tables of a class, if it has a chart
abbrev pub class_tables : List (Option Tables) → ℕ → Option Tables
class_tables classes c = option_and_then (λ (v : Option Tables). v) (slice_get classes c)

-- the tables of the class of a slot
unfoldable pub tables_at : Wiring → List (Option Tables) → ℕ → Option Tables
tables_at w classes slot = option_and_then (class_tables classes) (class_number w slot)

-- an actor whose active path ends at this state after a chain
abbrev pub standing_at : Acted ℕ → ℕ → Standing ℕ
standing_at a leaf = record { leaf = leaf; past = a.past; vars = a.vars }

-- an actor after a chain
abbrev pub standing_after : Acted ℕ → Actor
standing_after a = option_map (standing_at a) a.leaf

-- what a message came to
abbrev pub handling_of : Result → Handling
handling_of acting.Handled = Handled
handling_of acting.Deferred = Deferred
handling_of acting.Unhandled = Unhandled

-- an actor after its initial chain
abbrev pub begun : Acted ℕ → Begun Actor
begun a = record { machine = standing_after a; notes = a.notes; commands = a.commands }

-- an actor starts by the tables of its class; without a chart it does nothing
unfoldable pub begins : Incarnation → Option Tables → Begun Actor
begins x None = record { machine = None; notes = []; commands = [] }
begins x (Some v) = begun (starts_by (plan v) (moment_at_start x) (arrow_view v.initial) v.values.items)

-- an actor after a message
abbrev pub came_to : Acted ℕ → Outcome Actor
came_to a = record { machine = standing_after a; result = handling_of a.result; notes = a.notes; commands = a.commands }

-- an actor that handles nothing
abbrev pub passes_over : Actor → Outcome Actor
passes_over actor = record { machine = actor; result = Unhandled; notes = []; commands = [] }

-- an actor handles a message by the tables of its class; without a chart it handles nothing
unfoldable pub handles : Incarnation → Msg → Option Tables → Actor → Outcome Actor
handles x m None actor = passes_over actor
handles x m (Some v) None = passes_over None
handles x m (Some v) (Some actor) = came_to (handles_by (plan v) (moment_of x m) (event_of m) actor)

-- the number of an actor's state, 65,535 where its class has no chart
abbrev pub state_number : Actor → ℕ
state_number None = 65535
state_number (Some actor) = actor.leaf

-- the behaviour of a model with this wiring, whose classes have these tables, in order of their numbers
abbrev pub behaviour_of : Wiring → List (Option Tables) → Behaviour Actor
behaviour_of w classes = record {
  begin = λ x. begins x (tables_at w classes x.slot.0);
  handle = λ x actor m. handles x m (tables_at w classes x.slot.0) actor;
  state = state_number;
}
