-- Words with which small charts are written.
use Rattle.std.specs.Prelude.{ℕ, ℤ, pos, true, false, List, [], ◌∷◌, Option, Some, None}
use Rattle.std.specs.Option.{unwrap_or}
use Rattle.room_kinds.specs.declared.note.Note.{Note}
use Rattle.room_kinds.specs.declared.command.Command.{Command}
use Rattle.room_kinds.specs.declared.command.Command.TheVariants as commands
use Rattle.action_program.specs.declared.moment.Moment.{Moment}
use Rattle.action_program.specs.Numbered.{ExprTree, a_number, Stmts, no_stmt, a_stmt, send}
use Rattle.chart_model.specs.Chart.{Name, Path, Event, Source, initial, Target, Transition, State}
use Rattle.chart_model.specs.Acting.{Standing, Result, Acted}

-- the actor without a message, and with one that came without numbers
abbrev pub at_start : Moment
at_start = record { payload = []; place = 0; me = record { slot = record { 0 = 0 }; generation = record { 0 = 1 } }; has_message = false }

abbrev pub with_message : Moment
with_message = record { payload = []; place = 0; me = record { slot = record { 0 = 0 }; generation = record { 0 = 1 } }; has_message = true }

-- messages of port 1
abbrev pub event : ℕ → Event
event signal = record { port = 1; signal = signal }

-- `go[place].t();`: a message without numbers at a place of port 1, where `t` is signal 2
abbrev pub tell : ℕ → Stmts
tell place = a_stmt (send (record { port = 1; place = Some (a_number (pos place)); signal = 2; arguments = []; prio = record { 0 = 3 } })) no_stmt

-- the places of sends, in order
abbrev pub places : List Command → List (Option ℤ)
places [] = []
places (commands.Send port place signal payload prio ∷ cs) = place ∷ places cs
places (_ ∷ cs) = places cs

-- these places
abbrev pub told : List ℕ → List (Option ℤ)
told [] = []
told (k ∷ ks) = Some (pos k) ∷ told ks

-- a state without actions
abbrev pub plain : Name → State
plain name = record { name = name; entry = no_stmt; exit = no_stmt }

-- the initial transition, without an action
abbrev pub begins_at : Target → Transition
begins_at target = record { source = initial; target = target; triggers = []; condition = None; action = no_stmt }

-- a transition without a trigger: a branch or a continuation
abbrev pub goes : Source → Target → Option ExprTree → Stmts → Transition
goes source target condition action = record { source = source; target = target; triggers = []; condition = condition; action = action }

-- a transition that a message of port 1 triggers
abbrev pub on : ℕ → Source → Target → Stmts → Transition
on signal source target action =
    record { source = source; target = target; triggers = record { events = event signal ∷ []; guard = None } ∷ []; condition = None; action = action }

-- the same with a guard
abbrev pub on_if : ℕ → ExprTree → Source → Target → Stmts → Transition
on_if signal guard source target action =
    record { source = source; target = target; triggers = record { events = event signal ∷ []; guard = Some guard } ∷ []; condition = None; action = action }

-- an actor after a step
abbrev pub standing : Acted Path → Standing Path
standing a = record { leaf = unwrap_or a.leaf []; past = a.past; vars = a.vars }

-- what is seen of a step
pub record Seen : Type 0 where
  pub result : Result
  pub path : Path
  pub sends : List (Option ℤ)
  pub notes : List Note

abbrev pub seen : Acted Path → Seen
seen a = record { result = a.result; path = unwrap_or a.leaf []; sends = places a.commands; notes = a.notes }
