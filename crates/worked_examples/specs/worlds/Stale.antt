-- An actor is destroyed and created again while a message to it is on its way.
use Rattle.std.specs.Prelude.{pos, List, [], ◌∷◌, ◌++◌, Some, None}
use Rattle.room_kinds.specs.declared.message.Msg.{Msg}
use Rattle.room_kinds.specs.declared.note.Note.TheVariants as notes
use Rattle.journal.specs.declared.entry.Did.TheVariants as did
use Rattle.actor_merge.specs.Parties.{Line}
use Rattle.actor_merge.specs.World.{Placed}
use Rattle.actor_duties.specs.Words.{incarnation, endpoint}
use Rattle.worked_examples.specs.worlds.Writing.{starts_alone, msg, line, posted, fetched, turned, IsComputed}
pub use Rattle.worked_examples.specs.worlds.models.OptionalActors.{model, on_one_controller as tables}
use Rattle.worked_examples.specs.worlds.models.MadeAtFirst.{m1_1, made}

-- what party 1 posts at time 13
abbrev m1_13 : Msg
m1_13 = msg 1 0 3 13 None (endpoint 0 0 1 0) 1 []

-- what party 0 posts at time 16
abbrev m0_16 : Msg
m0_16 = msg 0 0 3 16 (Some (endpoint 0 1 2 0)) (endpoint 1 1 1 0) 3 []

-- what party 0 posts at time 17
abbrev m0_17 : Msg
m0_17 = msg 0 0 0 17 (Some (endpoint 0 1 0 0)) (endpoint 1 0 0 0) 3 []

-- what party 0 posts at time 18
abbrev m0_18 : Msg
m0_18 = msg 0 0 0 18 (Some (endpoint 0 1 0 0)) (endpoint 1 0 0 0) 0 []

-- what party 0 posts at time 23
abbrev m0_23 : Msg
m0_23 = msg 0 0 0 23 (Some (endpoint 1 1 0 0)) (endpoint 0 1 0 0) 4 (pos 0 ∷ [])

-- what party 0 posts at time 26
abbrev m0_26 : Msg
m0_26 = msg 0 0 0 26 (Some (endpoint 1 2 0 0)) (endpoint 0 1 0 0) 1 []

-- what party 0 posts at time 29
abbrev m0_29 : Msg
m0_29 = msg 0 0 3 29 (Some (endpoint 1 1 0 0)) (endpoint 0 1 0 0) 1 (pos 0 ∷ pos 0 ∷ pos 1048577 ∷ [])

-- what party 0 posts at time 32
abbrev m0_32 : Msg
m0_32 = msg 0 0 3 32 (Some (endpoint 1 2 0 0)) (endpoint 0 1 0 0) 0 (pos 0 ∷ pos 0 ∷ pos 1048578 ∷ [])

-- the lines of the environment, each with its part
abbrev pub lines : List Line
lines = line 1 m1_1 ∷ line 2 m1_13 ∷ []

-- all other entries, by stamp and party
abbrev pub merge : List Placed
merge =
    made
    ++ (posted m1_13
    ∷ fetched 14 m1_13
    ∷ turned 15 m1_13 (did.Handled (incarnation 0 1) 0) []
    ∷ posted m0_16
    ∷ posted m0_17
    ∷ posted m0_18
    ∷ fetched 19 m0_16
    ∷ fetched 20 m0_17
    ∷ fetched 21 m0_18
    ∷ turned 22 m0_17 did.Duty (notes.Down (incarnation 1 1) 0 ∷ [])
    ∷ posted m0_23
    ∷ fetched 24 m0_23
    ∷ turned 25 m0_18 did.Duty (notes.Up (incarnation 1 2) 0 ∷ [])
    ∷ posted m0_26
    ∷ fetched 27 m0_26
    ∷ turned 28 m0_23 did.Duty []
    ∷ posted m0_29
    ∷ fetched 30 m0_29
    ∷ turned 31 m0_26 did.Duty []
    ∷ posted m0_32
    ∷ fetched 33 m0_32
    ∷ turned 34 m0_16 (did.Stale (incarnation 1 1)) []
    ∷ turned 35 m0_29 (did.Handled (incarnation 0 1) 0) []
    ∷ turned 36 m0_32 (did.Handled (incarnation 0 1) 0) []
    ∷ [])

-- the definitions give these journals
abbrev pub StaleIsComputed : Type 0
StaleIsComputed = IsComputed model tables lines (starts_alone ∷ []) merge
