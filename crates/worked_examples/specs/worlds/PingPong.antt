-- Two actors on two controllers send each other a number.
use Rattle.std.specs.Prelude.{pos, true, false, List, [], ◌∷◌, Some, None}
use Rattle.room_kinds.specs.declared.message.Msg.{Msg}
use Rattle.journal.specs.declared.entry.Did.TheVariants as did
use Rattle.journal.specs.declared.entry.Entry.{Entry}
use Rattle.journal.specs.declared.entry.Entry.TheVariants as entry
use Rattle.room_wiring.specs.declared.tables.Tables.{Tables}
use Rattle.actor_merge.specs.Parties.{Line}
use Rattle.actor_merge.specs.World.{Placed}
use Rattle.actor_duties.specs.Words.{incarnation, endpoint}
use Rattle.worked_examples.specs.worlds.Writing.{msg, line, posted, fetched, turned, IsComputed}
pub use Rattle.worked_examples.specs.worlds.models.Pair.{model}
use Rattle.worked_examples.specs.worlds.models.Pair as pair

-- the wiring of the model: the second actor on controller 1, and each controller tells the other one
-- of its actor
abbrev pub tables : Tables
tables = pair.tables 1 2 ((false ∷ false ∷ []) ∷ (false ∷ true ∷ []) ∷ (true ∷ false ∷ []) ∷ [])

-- what party 2 posts at time 1
abbrev m2_1 : Msg
m2_1 = msg 2 0 3 1 None (endpoint 1 0 2 0) 0 []

-- what party 0 posts at time 4
abbrev m0_4 : Msg
m0_4 = msg 0 1 3 4 (Some (endpoint 1 1 1 0)) (endpoint 2 1 1 0) 0 (pos 1 ∷ [])

-- what party 1 posts at time 7
abbrev m1_7 : Msg
m1_7 = msg 1 0 3 7 (Some (endpoint 2 1 1 0)) (endpoint 1 1 1 0) 1 (pos 2 ∷ [])

-- the lines of the environment, each with its part
abbrev pub lines : List Line
lines = line 1 m2_1 ∷ []

-- how the journal of controller 0 begins
abbrev pub starts0 : List Entry
starts0 = entry.Start (incarnation 0 1) 65535 [] ∷ entry.Start (incarnation 1 1) 0 [] ∷ []

-- how the journal of controller 1 begins
abbrev pub starts1 : List Entry
starts1 = entry.Start (incarnation 2 1) 0 [] ∷ []

-- all other entries, by stamp and party
abbrev pub merge : List Placed
merge =
    posted m2_1
    ∷ fetched 2 m2_1
    ∷ turned 3 m2_1 (did.Handled (incarnation 1 1) 0) []
    ∷ posted m0_4
    ∷ fetched 5 m0_4
    ∷ turned 6 m0_4 (did.Handled (incarnation 2 1) 0) []
    ∷ posted m1_7
    ∷ fetched 8 m1_7
    ∷ turned 9 m1_7 (did.Handled (incarnation 1 1) 0) []
    ∷ []

-- the definitions give these journals
abbrev pub PingPongIsComputed : Type 0
PingPongIsComputed = IsComputed model tables lines (starts0 ∷ starts1 ∷ []) merge
