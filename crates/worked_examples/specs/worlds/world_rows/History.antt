-- A group transition, which leaves three states at once, and a border that was never visited before. The states S, S.U, S.U.V, S.U.W and X have the numbers 0 to 4; 5 stands for X with the history S.U.W.
use Rattle.std.specs.Prelude.{ℕ, pos, ◌==◌, ◌&&◌, if◌then◌else◌, List, [], ◌∷◌, Some, None}
use Rattle.room_kinds.specs.declared.message.Msg.{Msg}
use Rattle.room_kinds.specs.declared.note.Note.TheVariants as notes
use Rattle.room_kinds.specs.declared.numbers.Incarnation.{Incarnation}
use Rattle.room_kinds.specs.declared.command.Command.{Command}
use Rattle.room_kinds.specs.declared.command.Command.TheVariants as commands
use Rattle.journal.specs.declared.entry.Did.TheVariants as did
use Rattle.journal.specs.declared.entry.Entry.{Entry}
use Rattle.journal.specs.declared.entry.Entry.TheVariants as entry
use Rattle.actor_merge.specs.Parties.{Line}
use Rattle.actor_merge.specs.World.{Placed}
use Rattle.actor_duties.specs.Words.{incarnation, endpoint}
use Rattle.actor_world.specs.Behaviour.{Behaviour}
use Rattle.worked_examples.specs.worlds.Writing.{msg, line, posted, fetched, turned, Step, handled, unhandled, IsComputed}
pub use Rattle.worked_examples.specs.worlds.models.OnePort.{tables}

-- a send of `t` (signal 2) at this place of port 1, which is joined to nothing
abbrev pub go : ℕ → Command
go place = commands.Send 1 (Some (pos place)) 2 [] (record { 0 = 3 })

-- what the actor does at a `kick` (0) or a `back` (1)
abbrev step : Incarnation → ℕ → Msg → Step
step x s m =
    if (m.signal == 1) && (s == 2) then handled 3 (go 3 ∷ go 5 ∷ [])
    else if (m.signal == 0) && (s == 3) then handled 5 (go 2 ∷ go 1 ∷ go 9 ∷ [])
    else if (m.signal == 1) && (s == 5) then handled 3 (go 5 ∷ [])
    else if (m.signal == 1) && (s == 4) then handled 2 (go 4 ∷ [])
    else unhandled s

-- the behaviour of an actor that begins in S.U.V or in X
abbrev pub begun : ℕ → List Command → Behaviour ℕ
begun first commands = record {
  begin = λ x. record { machine = first; notes = []; commands = commands };
  handle = λ x s m. record { machine = (step x s m).state; result = (step x s m).result; notes = []; commands = (step x s m).commands };
  state = λ s. if s == 5 then 4 else s;
}

-- ---- a group transition and the way back by history

-- what party 1 posts at time 1
abbrev group_m1_1 : Msg
group_m1_1 = msg 1 0 3 1 None (endpoint 0 0 1 0) 1 []

-- what party 1 posts at time 2
abbrev group_m1_2 : Msg
group_m1_2 = msg 1 0 3 2 None (endpoint 0 0 1 0) 0 []

-- what party 1 posts at time 3
abbrev group_m1_3 : Msg
group_m1_3 = msg 1 0 3 3 None (endpoint 0 0 1 0) 1 []

-- the lines of the environment, each with its part
abbrev pub group_lines : List Line
group_lines = line 1 group_m1_1 ∷ line 1 group_m1_2 ∷ line 1 group_m1_3 ∷ []

-- how the journal of controller 0 begins
abbrev pub group_starts0 : List Entry
group_starts0 = entry.Start (incarnation 0 1) 2 (notes.Unbound 1 (pos 4) ∷ []) ∷ []

-- all other entries, by stamp and party
abbrev pub group_merge : List Placed
group_merge =
    posted group_m1_1
    ∷ fetched 2 group_m1_1
    ∷ posted group_m1_2
    ∷ fetched 3 group_m1_2
    ∷ posted group_m1_3
    ∷ fetched 4 group_m1_3
    ∷ turned 5 group_m1_1 (did.Handled (incarnation 0 1) 3) (notes.Unbound 1 (pos 3) ∷ notes.Unbound 1 (pos 5) ∷ [])
    ∷ turned 6 group_m1_2 (did.Handled (incarnation 0 1) 4) (notes.Unbound 1 (pos 2) ∷ notes.Unbound 1 (pos 1) ∷ notes.Unbound 1 (pos 9) ∷ [])
    ∷ turned 7 group_m1_3 (did.Handled (incarnation 0 1) 3) (notes.Unbound 1 (pos 5) ∷ [])
    ∷ []

-- the definitions give these journals
abbrev pub GroupIsComputed : Type 0
GroupIsComputed = IsComputed (begun 2 (go 4 ∷ [])) tables group_lines (group_starts0 ∷ []) group_merge

-- ---- a border without a history

-- what party 1 posts at time 1
abbrev border_m1_1 : Msg
border_m1_1 = msg 1 0 3 1 None (endpoint 0 0 1 0) 1 []

-- the lines of the environment, each with its part
abbrev pub border_lines : List Line
border_lines = line 1 border_m1_1 ∷ []

-- how the journal of controller 0 begins
abbrev pub border_starts0 : List Entry
border_starts0 = entry.Start (incarnation 0 1) 4 [] ∷ []

-- all other entries, by stamp and party
abbrev pub border_merge : List Placed
border_merge =
    posted border_m1_1
    ∷ fetched 2 border_m1_1
    ∷ turned 3 border_m1_1 (did.Handled (incarnation 0 1) 2) (notes.Unbound 1 (pos 4) ∷ [])
    ∷ []

-- the definitions give these journals
abbrev pub BorderIsComputed : Type 0
BorderIsComputed = IsComputed (begun 4 []) tables border_lines (border_starts0 ∷ []) border_merge
