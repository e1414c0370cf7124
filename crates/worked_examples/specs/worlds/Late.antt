-- A message is on its way from one controller to another while its target is destroyed.
use Rattle.std.specs.Prelude.{pos, true, false, List, [], ◌∷◌, Some, None}
use Rattle.room_kinds.specs.declared.message.Msg.{Msg}
use Rattle.room_kinds.specs.declared.note.Note.TheVariants as notes
use Rattle.journal.specs.declared.entry.Did.TheVariants as did
use Rattle.journal.specs.declared.entry.Entry.{Entry}
use Rattle.room_wiring.specs.declared.tables.Tables.{Tables}
use Rattle.actor_merge.specs.Parties.{Line}
use Rattle.actor_merge.specs.World.{Placed}
use Rattle.actor_duties.specs.Words.{incarnation, endpoint}
use Rattle.worked_examples.specs.worlds.Writing.{starts_alone, msg, line, posted, fetched, turned, IsComputed}
pub use Rattle.worked_examples.specs.worlds.models.OptionalActors.{model}
use Rattle.worked_examples.specs.worlds.models.OptionalActors as optional_actors

-- the wiring of the model: the optional actors on controller 1, and each controller tells the other one
-- of its slots
abbrev pub tables : Tables
tables = optional_actors.tables 1 2 ((false ∷ true ∷ []) ∷ (true ∷ false ∷ []) ∷ (true ∷ false ∷ []) ∷ [])

-- what party 2 posts at time 1
abbrev m2_1 : Msg
m2_1 = msg 2 0 3 1 None (endpoint 0 0 1 0) 0 (pos 0 ∷ [])

-- what party 0 posts at time 4
abbrev m0_4 : Msg
m0_4 = msg 0 1 0 4 (Some (endpoint 0 1 0 0)) (endpoint 1 0 0 0) 0 []

-- what party 1 posts at time 7
abbrev m1_7 : Msg
m1_7 = msg 1 0 0 7 (Some (endpoint 1 1 0 0)) (endpoint 1 1 0 0) 11 (pos 1 ∷ [])

-- what party 1 posts at time 8
abbrev m1_8 : Msg
m1_8 = msg 1 0 0 8 (Some (endpoint 1 1 0 0)) (endpoint 0 1 0 0) 1 []

-- what party 0 posts at time 12
abbrev m0_12 : Msg
m0_12 = msg 0 0 3 12 (Some (endpoint 1 1 0 0)) (endpoint 0 1 0 0) 0 (pos 0 ∷ pos 0 ∷ pos 1048577 ∷ [])

-- what party 2 posts at time 15
abbrev m2_15 : Msg
m2_15 = msg 2 0 3 15 None (endpoint 0 0 1 0) 2 []

-- what party 0 posts at time 18
abbrev m0_18 : Msg
m0_18 = msg 0 1 0 18 (Some (endpoint 0 1 0 0)) (endpoint 1 0 0 0) 3 []

-- what party 0 posts at time 19
abbrev m0_19 : Msg
m0_19 = msg 0 1 3 19 (Some (endpoint 0 1 2 0)) (endpoint 1 1 1 0) 3 []

-- what party 1 posts at time 23
abbrev m1_23 : Msg
m1_23 = msg 1 0 0 23 (Some (endpoint 1 1 0 0)) (endpoint 1 1 0 0) 11 (pos 0 ∷ [])

-- what party 1 posts at time 24
abbrev m1_24 : Msg
m1_24 = msg 1 0 0 24 (Some (endpoint 1 1 0 0)) (endpoint 0 1 0 0) 4 (pos 0 ∷ [])

-- what party 0 posts at time 28
abbrev m0_28 : Msg
m0_28 = msg 0 0 3 28 (Some (endpoint 1 1 0 0)) (endpoint 0 1 0 0) 1 (pos 0 ∷ pos 0 ∷ pos 1048577 ∷ [])

-- the lines of the environment, each with its part
abbrev pub lines : List Line
lines = line 1 m2_1 ∷ line 2 m2_15 ∷ []

-- how the journal of controller 1 begins
abbrev pub starts1 : List Entry
starts1 = []

-- all other entries, by stamp and party
abbrev pub merge : List Placed
merge =
    posted m2_1
    ∷ fetched 2 m2_1
    ∷ turned 3 m2_1 (did.Handled (incarnation 0 1) 0) []
    ∷ posted m0_4
    ∷ fetched 5 m0_4
    ∷ turned 6 m0_4 did.Duty (notes.Up (incarnation 1 1) 0 ∷ [])
    ∷ posted m1_7
    ∷ fetched 8 m1_7
    ∷ posted m1_8
    ∷ fetched 9 m1_8
    ∷ turned 10 m1_7 did.Duty []
    ∷ turned 11 m1_8 did.Duty []
    ∷ posted m0_12
    ∷ fetched 13 m0_12
    ∷ turned 14 m0_12 (did.Handled (incarnation 0 1) 0) []
    ∷ posted m2_15
    ∷ fetched 16 m2_15
    ∷ turned 17 m2_15 (did.Handled (incarnation 0 1) 0) []
    ∷ posted m0_18
    ∷ posted m0_19
    ∷ fetched 20 m0_19
    ∷ fetched 21 m0_18
    ∷ turned 22 m0_18 did.Duty (notes.Down (incarnation 1 1) 0 ∷ [])
    ∷ posted m1_23
    ∷ fetched 24 m1_23
    ∷ posted m1_24
    ∷ fetched 25 m1_24
    ∷ turned 25 m0_19 (did.Empty (incarnation 1 1)) []
    ∷ turned 26 m1_23 did.Duty []
    ∷ turned 27 m1_24 did.Duty []
    ∷ posted m0_28
    ∷ fetched 29 m0_28
    ∷ turned 30 m0_28 (did.Handled (incarnation 0 1) 0) []
    ∷ []

-- the definitions give these journals
abbrev pub LateIsComputed : Type 0
LateIsComputed = IsComputed model tables lines (starts_alone ∷ starts1 ∷ []) merge
