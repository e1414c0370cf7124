-- Two pairs of actors, each on a controller of its own.
use Rattle.std.specs.Prelude.{pos, List, [], ◌∷◌, Some, None}
use Rattle.room_kinds.specs.declared.message.Msg.{Msg}
use Rattle.journal.specs.declared.entry.Did.TheVariants as did
use Rattle.room_wiring.specs.declared.tables.Tables.{Tables}
use Rattle.actor_merge.specs.Parties.{Line}
use Rattle.actor_merge.specs.World.{Placed}
use Rattle.actor_duties.specs.Words.{incarnation, endpoint}
use Rattle.worked_examples.specs.worlds.Writing.{msg, line, posted, fetched, turned, IsComputed}
pub use Rattle.worked_examples.specs.worlds.models.TwoPairs.{model}
use Rattle.worked_examples.specs.worlds.models.TwoPairs as two_pairs

-- the wiring of the model
abbrev pub tables : Tables
tables = two_pairs.tables 0 1

-- what party 2 posts at time 1
abbrev m2_1 : Msg
m2_1 = msg 2 0 3 1 None (endpoint 1 0 2 0) 0 []

-- what party 2 posts at time 2
abbrev m2_2 : Msg
m2_2 = msg 2 1 3 2 None (endpoint 4 0 2 0) 0 []

-- what party 0 posts at time 4
abbrev m0_4 : Msg
m0_4 = msg 0 0 3 4 (Some (endpoint 1 1 1 0)) (endpoint 2 1 1 0) 0 (pos 1 ∷ [])

-- what party 1 posts at time 5
abbrev m1_5 : Msg
m1_5 = msg 1 1 3 5 (Some (endpoint 4 1 1 0)) (endpoint 5 1 1 0) 0 (pos 1 ∷ [])

-- what party 0 posts at time 7
abbrev m0_7 : Msg
m0_7 = msg 0 0 3 7 (Some (endpoint 2 1 1 0)) (endpoint 1 1 1 0) 1 (pos 2 ∷ [])

-- what party 1 posts at time 8
abbrev m1_8 : Msg
m1_8 = msg 1 1 3 8 (Some (endpoint 5 1 1 0)) (endpoint 4 1 1 0) 1 (pos 2 ∷ [])

-- the lines of the environment, each with its part
abbrev pub lines : List Line
lines = line 1 m2_1 ∷ line 1 m2_2 ∷ []

-- all other entries, by stamp and party
abbrev pub merge : List Placed
merge =
    posted m2_1
    ∷ fetched 2 m2_1
    ∷ posted m2_2
    ∷ turned 3 m2_1 (did.Handled (incarnation 1 1) 0) []
    ∷ fetched 3 m2_2
    ∷ posted m0_4
    ∷ turned 4 m2_2 (did.Handled (incarnation 4 1) 0) []
    ∷ fetched 5 m0_4
    ∷ posted m1_5
    ∷ turned 6 m0_4 (did.Handled (incarnation 2 1) 0) []
    ∷ fetched 6 m1_5
    ∷ posted m0_7
    ∷ turned 7 m1_5 (did.Handled (incarnation 5 1) 0) []
    ∷ fetched 8 m0_7
    ∷ posted m1_8
    ∷ turned 9 m0_7 (did.Handled (incarnation 1 1) 0) []
    ∷ fetched 9 m1_8
    ∷ turned 10 m1_8 (did.Handled (incarnation 4 1) 0) []
    ∷ []

-- the definitions give these journals
abbrev pub SideBySideIsComputed : Type 0
SideBySideIsComputed = IsComputed model tables lines (two_pairs.first_starts ∷ two_pairs.second_starts ∷ []) merge
