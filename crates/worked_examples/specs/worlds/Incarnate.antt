-- Incarnate of an empty slot, of an occupied one, and with an index out of range.
use Rattle.std.specs.Prelude.{pos, List, [], ◌∷◌, ◌++◌, Some, None}
use Rattle.room_kinds.specs.declared.message.Msg.{Msg}
use Rattle.journal.specs.declared.entry.Did.TheVariants as did
use Rattle.actor_merge.specs.Parties.{Line}
use Rattle.actor_merge.specs.World.{Placed}
use Rattle.actor_duties.specs.Words.{incarnation, endpoint}
use Rattle.worked_examples.specs.worlds.Writing.{starts_alone, msg, line, posted, fetched, turned, IsComputed}
pub use Rattle.worked_examples.specs.worlds.models.OptionalActors.{model, on_one_controller as tables}
use Rattle.worked_examples.specs.worlds.models.MadeAtFirst.{m1_1, made}

-- what party 1 posts at time 13
abbrev m1_13 : Msg
m1_13 = msg 1 0 3 13 None (endpoint 0 0 1 0) 0 (pos 0 ∷ [])

-- what party 0 posts at time 16
abbrev m0_16 : Msg
m0_16 = msg 0 0 0 16 (Some (endpoint 0 1 0 0)) (endpoint 1 0 0 0) 0 []

-- what party 0 posts at time 19
abbrev m0_19 : Msg
m0_19 = msg 0 0 0 19 (Some (endpoint 1 0 0 0)) (endpoint 0 1 0 0) 2 (pos 1 ∷ [])

-- what party 0 posts at time 22
abbrev m0_22 : Msg
m0_22 = msg 0 0 3 22 (Some (endpoint 1 0 0 0)) (endpoint 0 1 0 0) 5 (pos 0 ∷ pos 0 ∷ pos 1 ∷ [])

-- what party 1 posts at time 25
abbrev m1_25 : Msg
m1_25 = msg 1 0 3 25 None (endpoint 0 0 1 0) 0 (pos 2 ∷ [])

-- what party 0 posts at time 28
abbrev m0_28 : Msg
m0_28 = msg 0 0 3 28 (Some (endpoint 0 1 0 0)) (endpoint 0 1 0 0) 5 (pos 0 ∷ pos 2 ∷ pos 2 ∷ [])

-- the lines of the environment, each with its part
abbrev pub lines : List Line
lines = line 1 m1_1 ∷ line 2 m1_13 ∷ line 3 m1_25 ∷ []

-- all other entries, by stamp and party
abbrev pub merge : List Placed
merge =
    made
    ++ (posted m1_13
    ∷ fetched 14 m1_13
    ∷ turned 15 m1_13 (did.Handled (incarnation 0 1) 0) []
    ∷ posted m0_16
    ∷ fetched 17 m0_16
    ∷ turned 18 m0_16 did.Duty []
    ∷ posted m0_19
    ∷ fetched 20 m0_19
    ∷ turned 21 m0_19 did.Duty []
    ∷ posted m0_22
    ∷ fetched 23 m0_22
    ∷ turned 24 m0_22 (did.Handled (incarnation 0 1) 0) []
    ∷ posted m1_25
    ∷ fetched 26 m1_25
    ∷ turned 27 m1_25 (did.Handled (incarnation 0 1) 0) []
    ∷ posted m0_28
    ∷ fetched 29 m0_28
    ∷ turned 30 m0_28 (did.Handled (incarnation 0 1) 0) []
    ∷ [])

-- the definitions give these journals
abbrev pub IncarnateIsComputed : Type 0
IncarnateIsComputed = IsComputed model tables lines (starts_alone ∷ []) merge
