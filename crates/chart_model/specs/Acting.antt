-- How an actor handles a message by its chart: path, history, attributes, notes and commands.
use Rattle.std.specs.Prelude.{ℤ, ◌&&◌, Bool, true, false, if◌then◌else◌, List, [], ◌∷◌, Option, None}
use Rattle.std.specs.List.{list_any}
use Rattle.std.specs.Option.{unwrap_or}
use Rattle.room_kinds.specs.declared.note.Note.{Note}
use Rattle.room_kinds.specs.declared.command.Command.{Command}
use Rattle.room_kinds.specs.declared.command.Command.TheVariants as commands
use Rattle.action_program.specs.declared.moment.Moment.{Moment}
use Rattle.action_program.specs.Arithmetic.{is_true}
use Rattle.action_program.specs.Meaning.{Ran, noted, notes_of, value_of, run_all}
use Rattle.action_program.specs.Numbered.{ExprTree, Stmts}
use Rattle.chart_model.specs.chart_plan.Plan.{Plan, Running}
use Rattle.chart_model.specs.chart_plan.Handling.{Memory, Outcome, handling, starting}
use Rattle.chart_model.specs.Chart.{Path, Event, Chart}
use Rattle.chart_model.specs.Named.{Placed, from, is_initial, plan_of}

-- programs and conditions of the action language, at a moment
abbrev pub acting : Moment → Running Stmts ExprTree Ran
acting at = record {
  run = λ program r. run_all program at r;
  test = λ c r. (is_true (value_of c r.vars at), noted (notes_of c r.vars at) r);
}

-- An actor between two messages, over any kind of names for states: the state at which its active path
-- ends, the history of its composite states, its attributes.
pub record Standing (S : Type 0) : Type 0 where
  pub leaf : S
  pub past : S → Option S
  pub vars : List ℤ

pub data Result : Type 0 where
  Handled : Result
  Deferred : Result
  Unhandled : Result

-- what handling a message gives; there is no state only where a chart has no initial transition
pub record Acted (S : Type 0) : Type 0 where
  pub result : Result
  pub leaf : Option S
  pub past : S → Option S
  pub vars : List ℤ
  pub notes : List Note
  pub commands : List Command

-- attributes, and nothing told or asked for yet
abbrev pub quiet : List ℤ → Ran
quiet vars = record { vars = vars; notes = []; commands = [] }

abbrev pub is_defer : Command → Bool
is_defer commands.Defer = true
is_defer _ = false

-- `deferred` where a `defer` was executed with a message
abbrev pub result_of : Moment → Bool → List Command → Result
result_of at false asked = Unhandled
result_of at true asked = if at.has_message && list_any is_defer asked then Deferred else Handled

abbrev pub acted : {S : Type 0} → Result → Option S → Memory S Ran → Acted S
acted result leaf m = record { result = result; leaf = leaf; past = m.past; vars = m.ran.vars; notes = m.ran.notes; commands = m.ran.commands }

abbrev pub acted_by : {S : Type 0} → Moment → Outcome S Ran → Acted S
acted_by at h = acted (result_of at h.enabled h.memory.ran.commands) h.leaf h.memory

-- the memory of an actor between two messages
abbrev pub memory_of : {S : Type 0} → Standing S → Memory S Ran
memory_of actor = record { past = actor.past; ran = quiet actor.vars }

-- the handling of an event, at a moment, by a plan
unfoldable pub handles_by : {S N T : Type 0} → Plan S N T Event Stmts ExprTree → Moment → Event → Standing S → Acted S
handles_by p at event actor = acted_by at (handling p (acting at) actor.leaf event (memory_of actor))

-- the start of an actor with these attributes, by a plan and its initial transition
unfoldable pub starts_by : {S N T : Type 0} → Plan S N T Event Stmts ExprTree → Moment → T → List ℤ → Acted S
starts_by p at initial values = let end = starting p (acting at) initial (quiet values) in acted Handled end.0 end.1

-- ---- by the names of a chart

-- the handling of an event by a chart
abbrev pub handles : Chart → Moment → Event → Standing Path → Acted Path
handles chart = handles_by (plan_of chart)

abbrev pub starts_with : Chart → Moment → List Placed → Acted Path
starts_with chart at [] = acted Handled None (record { past = λ s. None; ran = quiet chart.values })
starts_with chart at (t ∷ ts) = starts_by (plan_of chart) at t chart.values

-- the start of an actor: its attributes have their initial values, and the initial chain is taken, without a message
abbrev pub starts : Chart → Moment → Acted Path
starts chart at = starts_with chart at (from is_initial chart [])
