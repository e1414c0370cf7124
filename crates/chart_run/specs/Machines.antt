-- Machines, by the numbers of their tables.
use Rattle.std.specs.Prelude.{◌≡◌, ℕ, Bool, true, false, List, [], Option, Some, None, length, slice_index_or}
use Rattle.room_kinds.specs.declared.message.Msg.{Msg}
use Rattle.room_kinds.specs.declared.numbers.Incarnation.{Incarnation}
use Rattle.action_program.specs.Meaning.{Ran}
use Rattle.action_program.specs.declared.moment.Effects.{Effects}
use Rattle.action_program.specs.declared.moment.Moment.{Moment}
use Rattle.chart_model.specs.chart_plan.Handling.{Outcome as Handled_}
use Rattle.chart_model.specs.Acting.{Standing, Result, Handled, Deferred, Unhandled, Acted, handles_by, starts_by}
use Rattle.chart_model.specs.Chart.{Event}
use Rattle.chart_run.specs.chart_tables.Minds.{memory_of}
use Rattle.chart_run.specs.chart_tables.Tables.{plan, arrow_view}
use Rattle.chart_run.specs.declared.chart_tables.mind.Mind.{Mind}
use Rattle.chart_run.specs.declared.chart_tables.tables.Tables.{Tables}
use Rattle.chart_run.specs.declared.machine.Machine.{Machine}
use Rattle.chart_run.specs.declared.outcome.Handling.{Handling}
use Rattle.chart_run.specs.declared.outcome.Handling.TheVariants as handlings
use Rattle.chart_run.specs.declared.outcome.Outcome.{Outcome}

-- ---- messages

-- what came with a message to an actor
abbrev pub moment_of : Incarnation → Msg → Moment
moment_of me m = record { payload = m.payload; place = m.target.place; me = me; has_message = true }

-- an actor's start, without a message
abbrev pub moment_at_start : Incarnation → Moment
moment_at_start me = record { payload = []; place = 0; me = me; has_message = false }

-- the message that came, and the port where it came
abbrev pub event_of : Msg → Event
event_of m = record { port = m.target.port; signal = m.signal }

-- ---- machines

-- the machine is one of tables with so many states
pub record Fits (v : Tables) (m : Machine) : Type 0 where
  pub size : m.failed ≡ false → length m.mind.past.items ≡ length v.states.items
  pub quiet_notes : m.failed ≡ false → m.mind.effects.notes ≡ []
  pub quiet_commands : m.failed ≡ false → m.mind.effects.commands ≡ []

-- what a machine stands for between two messages
abbrev pub standing_of : Machine → Standing ℕ
standing_of m = record { leaf = m.leaf; past = λ s. slice_index_or m.mind.past.items s None; vars = m.mind.vars }

abbrev pub result_view : Handling → Result
result_view handlings.Handled = Handled
result_view handlings.Deferred = Deferred
result_view handlings.Unhandled = Unhandled

-- whether a transition was taken, where the path ends then, and what was changed
abbrev pub handled_at : Bool → ℕ → Mind → Handled_ ℕ Ran
handled_at enabled leaf mind = record { enabled = enabled; leaf = Some leaf; memory = memory_of mind }

-- what a call made of a machine, with its result and effects
abbrev pub acted_of : Result → Machine → Effects → Acted ℕ
acted_of result m effects = record {
  result = result;
  leaf = Some m.leaf;
  past = λ s. slice_index_or m.mind.past.items s None;
  vars = m.mind.vars;
  notes = effects.notes;
  commands = effects.commands;
}

-- a machine handled a message as the tables say
pub record Acts (v : Tables) (old new : Machine) (m : Msg) (outcome : Outcome) : Type 0 where
  pub acts : acted_of (result_view outcome.result) new outcome.effects ≡ handles_by (plan v) (moment_of old.me m) (event_of m) (standing_of old)
  pub me : new.me ≡ old.me
  pub works : new.failed ≡ false

-- a machine started as the tables say
pub record Starts (v : Tables) (me : Incarnation) (m : Machine) (effects : Effects) : Type 0 where
  pub starts : acted_of Handled m effects ≡ starts_by (plan v) (moment_at_start me) (arrow_view v.initial) v.values.items
  pub own : m.me ≡ me
  pub works : m.failed ≡ false
