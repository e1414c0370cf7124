-- An imported actor is destroyed, and its importer is told.
use Rattle.std.specs.Prelude.{ℕ, pos, ◌==◌, ◌&&◌, if◌then◌else◌, List, [], ◌∷◌, ◌++◌, Some, None}
use Rattle.room_kinds.specs.declared.message.Msg.{Msg}
use Rattle.room_kinds.specs.declared.note.Note.TheVariants as notes
use Rattle.room_kinds.specs.declared.numbers.Incarnation.{Incarnation}
use Rattle.room_kinds.specs.declared.command.Command.TheVariants as commands
use Rattle.room_kinds.specs.declared.command.FrameCommand.TheVariants as frame
use Rattle.journal.specs.declared.entry.Did.TheVariants as did
use Rattle.room_wiring.specs.declared.tables.Tables.{Tables}
use Rattle.room_kinds.specs.declared.structure.ReferenceKind.TheVariants.{Optional}
use Rattle.actor_merge.specs.Parties.{Line}
use Rattle.actor_merge.specs.World.{Placed}
use Rattle.actor_duties.specs.Words.{incarnation, endpoint}
use Rattle.actor_world.specs.Behaviour.{Behaviour}
use Rattle.worked_examples.specs.worlds.Writing.{starts_alone, msg, line, posted, fetched, turned, Step, first_of, is_at, handled, behaviour_of, IsComputed}
use Rattle.worked_examples.specs.worlds.models.ImportPlaces.{tables as place_tables}
use Rattle.worked_examples.specs.worlds.models.MadeAtFirst.{m1_1, made}

-- the wiring of the model
abbrev pub tables : Tables
tables = place_tables Optional

-- what the actors do: at a `make` (signal 0) the top actor makes its optional part, at a `swap` (1) it imports it and destroys it
abbrev step : Incarnation → ℕ → Msg → Step
step x s m =
    if is_at 0 1 m && (m.signal == 0) then handled 0 (commands.Frame (frame.Incarnate 0 (pos 0)) ∷ [])
    else if is_at 0 1 m
    then handled 0 (commands.Frame (frame.Import 1 (pos 0) (first_of m.payload)) ∷ commands.Frame (frame.Destroy 0 (pos 0)) ∷ [])
    else handled 0 []

-- the behaviour of all actors
abbrev pub model : Behaviour ℕ
model = behaviour_of (λ x. 0) (λ x. []) step

-- what party 1 posts at time 13
abbrev m1_13 : Msg
m1_13 = msg 1 0 3 13 None (endpoint 0 0 1 0) 1 (pos 1048577 ∷ [])

-- what party 0 posts at time 16
abbrev m0_16 : Msg
m0_16 = msg 0 0 0 16 (Some (endpoint 2 1 0 0)) (endpoint 1 1 0 0) 5 []

-- what party 0 posts at time 17
abbrev m0_17 : Msg
m0_17 = msg 0 0 0 17 (Some (endpoint 0 1 0 0)) (endpoint 1 0 0 0) 3 []

-- what party 0 posts at time 21
abbrev m0_21 : Msg
m0_21 = msg 0 0 0 21 (Some (endpoint 1 1 0 0)) (endpoint 2 1 0 0) 6 []

-- what party 0 posts at time 24
abbrev m0_24 : Msg
m0_24 = msg 0 0 0 24 (Some (endpoint 1 1 0 0)) (endpoint 2 1 0 0) 8 []

-- what party 0 posts at time 25
abbrev m0_25 : Msg
m0_25 = msg 0 0 0 25 (Some (endpoint 1 1 0 0)) (endpoint 0 1 0 0) 4 (pos 0 ∷ [])

-- what party 0 posts at time 29
abbrev m0_29 : Msg
m0_29 = msg 0 0 3 29 (Some (endpoint 1 1 0 0)) (endpoint 0 1 0 0) 2 (pos 1 ∷ pos 0 ∷ pos 1048577 ∷ [])

-- what party 0 posts at time 32
abbrev m0_32 : Msg
m0_32 = msg 0 0 3 32 (Some (endpoint 1 1 0 0)) (endpoint 0 1 0 0) 3 (pos 1 ∷ pos 0 ∷ pos 1048577 ∷ [])

-- what party 0 posts at time 35
abbrev m0_35 : Msg
m0_35 = msg 0 0 3 35 (Some (endpoint 1 1 0 0)) (endpoint 0 1 0 0) 1 (pos 0 ∷ pos 0 ∷ pos 1048577 ∷ [])

-- the lines of the environment, each with its part
abbrev pub lines : List Line
lines = line 1 m1_1 ∷ line 2 m1_13 ∷ []

-- all other entries, by stamp and party
abbrev pub merge : List Placed
merge =
    made
    ++ (posted m1_13
    ∷ fetched 14 m1_13
    ∷ turned 15 m1_13 (did.Handled (incarnation 0 1) 0) []
    ∷ posted m0_16
    ∷ posted m0_17
    ∷ fetched 18 m0_16
    ∷ fetched 19 m0_17
    ∷ turned 20 m0_16 did.Duty []
    ∷ posted m0_21
    ∷ fetched 22 m0_21
    ∷ turned 23 m0_17 did.Duty (notes.Down (incarnation 1 1) 0 ∷ [])
    ∷ posted m0_24
    ∷ posted m0_25
    ∷ fetched 26 m0_24
    ∷ fetched 27 m0_25
    ∷ turned 28 m0_21 did.Duty []
    ∷ posted m0_29
    ∷ fetched 30 m0_29
    ∷ turned 31 m0_24 did.Duty []
    ∷ posted m0_32
    ∷ fetched 33 m0_32
    ∷ turned 34 m0_25 did.Duty []
    ∷ posted m0_35
    ∷ fetched 36 m0_35
    ∷ turned 37 m0_29 (did.Handled (incarnation 0 1) 0) []
    ∷ turned 38 m0_32 (did.Handled (incarnation 0 1) 0) []
    ∷ turned 39 m0_35 (did.Handled (incarnation 0 1) 0) []
    ∷ [])

-- the definitions give these journals
abbrev pub HomeIsComputed : Type 0
HomeIsComputed = IsComputed model tables lines (starts_alone ∷ []) merge
