-- Two actors on one controller, which send each other a number.
use Rattle.std.specs.Prelude.{pos, List, [], ◌∷◌, ◌++◌, Some, None}
use Rattle.room_kinds.specs.declared.message.Msg.{Msg}
use Rattle.journal.specs.declared.entry.Did.TheVariants as did
use Rattle.actor_merge.specs.Parties.{Line}
use Rattle.actor_merge.specs.World.{Placed}
use Rattle.actor_duties.specs.Words.{incarnation, endpoint}
use Rattle.worked_examples.specs.worlds.Writing.{msg, line, posted, fetched, turned, IsComputed}
pub use Rattle.worked_examples.specs.worlds.models.Pair.{model, on_one_controller as tables}
use Rattle.worked_examples.specs.worlds.models.Pair.{starts}

-- what party 1 posts at time 1
abbrev m1_1 : Msg
m1_1 = msg 1 0 3 1 None (endpoint 1 0 2 0) 0 []

-- what party 0 posts at time 4
abbrev pub m0_4 : Msg
m0_4 = msg 0 0 3 4 (Some (endpoint 1 1 1 0)) (endpoint 2 1 1 0) 0 (pos 1 ∷ [])

-- what party 0 posts at time 7
abbrev m0_7 : Msg
m0_7 = msg 0 0 3 7 (Some (endpoint 2 1 1 0)) (endpoint 1 1 1 0) 1 (pos 2 ∷ [])

-- the lines of the environment, each with its part
abbrev pub lines : List Line
lines = line 1 m1_1 ∷ []

-- ---- the run with fuel for one turn

-- all other entries, by stamp and party
abbrev pub spent_merge : List Placed
spent_merge =
    posted m1_1
    ∷ fetched 2 m1_1
    ∷ turned 3 m1_1 (did.Handled (incarnation 1 1) 0) []
    ∷ posted m0_4
    ∷ fetched 5 m0_4
    ∷ []

-- the definitions give these journals
abbrev pub SpentIsComputed : Type 0
SpentIsComputed = IsComputed model tables lines (starts ∷ []) spent_merge

-- ---- the whole run, which goes on from there

-- all other entries, by stamp and party
abbrev pub whole_merge : List Placed
whole_merge =
    spent_merge
    ++ (turned 6 m0_4 (did.Handled (incarnation 2 1) 0) []
    ∷ posted m0_7
    ∷ fetched 8 m0_7
    ∷ turned 9 m0_7 (did.Handled (incarnation 1 1) 0) []
    ∷ [])

-- the definitions give these journals
abbrev pub NumbersIsComputed : Type 0
NumbersIsComputed = IsComputed model tables lines (starts ∷ []) whole_merge

-- ---- the run without lines

-- the lines of the environment, each with its part
abbrev pub none_lines : List Line
none_lines = []

-- all other entries, by stamp and party
abbrev pub none_merge : List Placed
none_merge =
    []

-- the definitions give these journals
abbrev pub NoLinesIsComputed : Type 0
NoLinesIsComputed = IsComputed model tables none_lines (starts ∷ []) none_merge
