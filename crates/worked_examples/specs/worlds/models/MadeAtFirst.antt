-- How a run begins in which the top actor makes its optional actor at the first message, all on one
-- controller.
use Rattle.std.specs.Prelude.{pos, List, [], ◌∷◌, Some, None}
use Rattle.room_kinds.specs.declared.message.Msg.{Msg}
use Rattle.room_kinds.specs.declared.note.Note.TheVariants as notes
use Rattle.journal.specs.declared.entry.Did.TheVariants as did
use Rattle.actor_merge.specs.World.{Placed}
use Rattle.actor_duties.specs.Words.{incarnation, endpoint}
use Rattle.worked_examples.specs.worlds.Writing.{msg, posted, fetched, turned}

-- what party 1 posts at time 1
abbrev pub m1_1 : Msg
m1_1 = msg 1 0 3 1 None (endpoint 0 0 1 0) 0 (pos 0 ∷ [])

-- what party 0 posts at time 4
abbrev m0_4 : Msg
m0_4 = msg 0 0 0 4 (Some (endpoint 0 1 0 0)) (endpoint 1 0 0 0) 0 []

-- what party 0 posts at time 7
abbrev m0_7 : Msg
m0_7 = msg 0 0 0 7 (Some (endpoint 1 1 0 0)) (endpoint 0 1 0 0) 1 []

-- what party 0 posts at time 10
abbrev m0_10 : Msg
m0_10 = msg 0 0 3 10 (Some (endpoint 1 1 0 0)) (endpoint 0 1 0 0) 0 (pos 0 ∷ pos 0 ∷ pos 1048577 ∷ [])

-- the entries up to the turn in which the top actor is told of it
abbrev pub made : List Placed
made =
    posted m1_1
    ∷ fetched 2 m1_1
    ∷ turned 3 m1_1 (did.Handled (incarnation 0 1) 0) []
    ∷ posted m0_4
    ∷ fetched 5 m0_4
    ∷ turned 6 m0_4 did.Duty (notes.Up (incarnation 1 1) 0 ∷ [])
    ∷ posted m0_7
    ∷ fetched 8 m0_7
    ∷ turned 9 m0_7 did.Duty []
    ∷ posted m0_10
    ∷ fetched 11 m0_10
    ∷ turned 12 m0_10 (did.Handled (incarnation 0 1) 0) []
    ∷ []
