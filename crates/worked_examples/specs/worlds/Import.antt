-- An actor is imported into one slot and refused to a second one, since its port is taken, and deported again.
use Rattle.std.specs.Prelude.{ℕ, pos, ◌==◌, ◌&&◌, if◌then◌else◌, List, [], ◌∷◌, ◌++◌, Some, None}
use Rattle.room_kinds.specs.declared.message.Msg.{Msg}
use Rattle.room_kinds.specs.declared.numbers.Incarnation.{Incarnation}
use Rattle.room_kinds.specs.declared.command.Command.TheVariants as commands
use Rattle.room_kinds.specs.declared.command.FrameCommand.TheVariants as frame
use Rattle.journal.specs.declared.entry.Did.TheVariants as did
use Rattle.journal.specs.declared.entry.Entry.{Entry}
use Rattle.journal.specs.declared.entry.Entry.TheVariants as entry
use Rattle.room_wiring.specs.declared.tables.Tables.{Tables}
use Rattle.room_kinds.specs.declared.structure.ReferenceKind.TheVariants.{Fixed}
use Rattle.actor_merge.specs.Parties.{Line}
use Rattle.actor_merge.specs.World.{Placed}
use Rattle.actor_duties.specs.Words.{incarnation, endpoint}
use Rattle.actor_world.specs.Behaviour.{Behaviour}
use Rattle.worked_examples.specs.worlds.Writing.{msg, line, posted, fetched, turned, Step, first_of, is_at, handled, behaviour_of, IsComputed}
use Rattle.worked_examples.specs.worlds.models.ImportPlaces.{tables as place_tables}

-- the wiring of the model
abbrev pub tables : Tables
tables = place_tables Fixed

-- what the actors do: at a `make` (signal 0) the top actor imports into both imported slots, at a `late` (2) it deports from the first
abbrev step : Incarnation → ℕ → Msg → Step
step x s m =
    if is_at 0 1 m && (m.signal == 0)
    then handled 0 (commands.Frame (frame.Import 1 (pos 0) (first_of m.payload)) ∷ commands.Frame (frame.Import 1 (pos 1) (first_of m.payload)) ∷ [])
    else if is_at 0 1 m then handled 0 (commands.Frame (frame.Deport 1 (pos 0)) ∷ [])
    else handled 0 []

-- the behaviour of all actors
abbrev pub model : Behaviour ℕ
model = behaviour_of (λ x. 0) (λ x. []) step

-- what party 1 posts at time 1
abbrev m1_1 : Msg
m1_1 = msg 1 0 3 1 None (endpoint 0 0 1 0) 0 (pos 1048577 ∷ [])

-- what party 0 posts at time 4
abbrev m0_4 : Msg
m0_4 = msg 0 0 0 4 (Some (endpoint 2 1 0 0)) (endpoint 1 1 0 0) 5 []

-- what party 0 posts at time 5
abbrev m0_5 : Msg
m0_5 = msg 0 0 0 5 (Some (endpoint 3 1 0 0)) (endpoint 1 1 0 0) 5 []

-- what party 0 posts at time 9
abbrev m0_9 : Msg
m0_9 = msg 0 0 0 9 (Some (endpoint 1 1 0 0)) (endpoint 2 1 0 0) 6 []

-- what party 0 posts at time 12
abbrev m0_12 : Msg
m0_12 = msg 0 0 0 12 (Some (endpoint 1 1 0 0)) (endpoint 3 1 0 0) 7 (pos 5 ∷ [])

-- what party 0 posts at time 15
abbrev m0_15 : Msg
m0_15 = msg 0 0 3 15 (Some (endpoint 1 1 0 0)) (endpoint 0 1 0 0) 2 (pos 1 ∷ pos 0 ∷ pos 1048577 ∷ [])

-- what party 0 posts at time 18
abbrev m0_18 : Msg
m0_18 = msg 0 0 3 18 (Some (endpoint 1 1 0 0)) (endpoint 0 1 0 0) 5 (pos 1 ∷ pos 1 ∷ pos 5 ∷ [])

-- what party 1 posts at time 22
abbrev m1_22 : Msg
m1_22 = msg 1 0 3 22 None (endpoint 0 0 1 0) 2 []

-- what party 0 posts at time 25
abbrev m0_25 : Msg
m0_25 = msg 0 0 0 25 (Some (endpoint 2 1 0 0)) (endpoint 1 1 0 0) 9 []

-- what party 0 posts at time 28
abbrev m0_28 : Msg
m0_28 = msg 0 0 0 28 (Some (endpoint 1 1 0 0)) (endpoint 2 1 0 0) 10 []

-- what party 0 posts at time 31
abbrev m0_31 : Msg
m0_31 = msg 0 0 3 31 (Some (endpoint 1 1 0 0)) (endpoint 0 1 0 0) 4 (pos 1 ∷ pos 0 ∷ pos 1048577 ∷ [])

-- how the journal of controller 0 begins
abbrev pub starts0 : List Entry
starts0 = entry.Start (incarnation 0 1) 0 [] ∷ entry.Start (incarnation 1 1) 0 [] ∷ []

-- ---- the second import is refused

-- the lines of the environment, each with its part
abbrev pub refused_lines : List Line
refused_lines = line 1 m1_1 ∷ []

-- all other entries, by stamp and party
abbrev pub refused_merge : List Placed
refused_merge =
    posted m1_1
    ∷ fetched 2 m1_1
    ∷ turned 3 m1_1 (did.Handled (incarnation 0 1) 0) []
    ∷ posted m0_4
    ∷ posted m0_5
    ∷ fetched 6 m0_4
    ∷ fetched 7 m0_5
    ∷ turned 8 m0_4 did.Duty []
    ∷ posted m0_9
    ∷ fetched 10 m0_9
    ∷ turned 11 m0_5 did.Duty []
    ∷ posted m0_12
    ∷ fetched 13 m0_12
    ∷ turned 14 m0_9 did.Duty []
    ∷ posted m0_15
    ∷ fetched 16 m0_15
    ∷ turned 17 m0_12 did.Duty []
    ∷ posted m0_18
    ∷ fetched 19 m0_18
    ∷ turned 20 m0_15 (did.Handled (incarnation 0 1) 0) []
    ∷ turned 21 m0_18 (did.Handled (incarnation 0 1) 0) []
    ∷ []

-- the definitions give these journals
abbrev pub SecondPlugIsComputed : Type 0
SecondPlugIsComputed = IsComputed model tables refused_lines (starts0 ∷ []) refused_merge

-- ---- and in the next part the first one is deported

-- the lines of the environment, each with its part
abbrev pub lines : List Line
lines = line 1 m1_1 ∷ line 2 m1_22 ∷ []

-- all other entries, by stamp and party
abbrev pub merge : List Placed
merge =
    refused_merge
    ++ (posted m1_22
    ∷ fetched 23 m1_22
    ∷ turned 24 m1_22 (did.Handled (incarnation 0 1) 0) []
    ∷ posted m0_25
    ∷ fetched 26 m0_25
    ∷ turned 27 m0_25 did.Duty []
    ∷ posted m0_28
    ∷ fetched 29 m0_28
    ∷ turned 30 m0_28 did.Duty []
    ∷ posted m0_31
    ∷ fetched 32 m0_31
    ∷ turned 33 m0_31 (did.Handled (incarnation 0 1) 0) []
    ∷ [])

-- the definitions give these journals
abbrev pub ImportIsComputed : Type 0
ImportIsComputed = IsComputed model tables lines (starts0 ∷ []) merge
