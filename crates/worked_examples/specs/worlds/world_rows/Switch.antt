-- An actor with one port and a flat chart: a `kick` (signal 0) leads from A to B.
use Rattle.std.specs.Prelude.{ℕ, ◌==◌, ◌&&◌, ◌+◌, if◌then◌else◌, List, [], ◌∷◌, ◌++◌, map, None}
use Rattle.std.specs.List.{flat_map, range_with_len}
use Rattle.room_kinds.specs.declared.message.Msg.{Msg}
use Rattle.room_kinds.specs.declared.numbers.Incarnation.{Incarnation}
use Rattle.journal.specs.declared.entry.Did.TheVariants as did
use Rattle.actor_merge.specs.Parties.{Line}
use Rattle.actor_merge.specs.World.{Placed}
use Rattle.actor_duties.specs.Words.{incarnation, endpoint}
use Rattle.actor_world.specs.Behaviour.{Behaviour}
use Rattle.worked_examples.specs.worlds.Writing.{starts_alone, msg, line, posted, fetched, turned, Step, handled, unhandled, behaviour_of, IsComputed}
pub use Rattle.worked_examples.specs.worlds.models.OnePort.{tables}

-- what the actor does: a `kick` in A leads to B
abbrev step : Incarnation → ℕ → Msg → Step
step x s m = if (m.signal == 0) && (s == 0) then handled 1 [] else unhandled s

-- the behaviour of the actor
abbrev pub model : Behaviour ℕ
model = behaviour_of (λ x. 0) (λ x. []) step

-- the kick that the environment posts at a time
abbrev kick : ℕ → Msg
kick time = msg 1 0 3 time None (endpoint 0 0 1 0) 0 []

-- ---- one message

-- the lines of the environment, each with its part
abbrev pub one_lines : List Line
one_lines = line 1 (kick 1) ∷ []

-- all other entries, by stamp and party
abbrev pub one_merge : List Placed
one_merge =
    posted (kick 1)
    ∷ fetched 2 (kick 1)
    ∷ turned 3 (kick 1) (did.Handled (incarnation 0 1) 1) []
    ∷ []

-- the definitions give these journals
abbrev pub OneMessageIsComputed : Type 0
OneMessageIsComputed = IsComputed model tables one_lines (starts_alone ∷ []) one_merge

-- ---- a message that nothing handles

-- what party 1 posts at time 1
abbrev other_m1_1 : Msg
other_m1_1 = msg 1 0 3 1 None (endpoint 0 0 1 0) 1 []

-- the lines of the environment, each with its part
abbrev pub other_lines : List Line
other_lines = line 1 other_m1_1 ∷ line 1 (kick 2) ∷ []

-- all other entries, by stamp and party
abbrev pub other_merge : List Placed
other_merge =
    posted other_m1_1
    ∷ fetched 2 other_m1_1
    ∷ posted (kick 2)
    ∷ fetched 3 (kick 2)
    ∷ turned 4 other_m1_1 (did.Unhandled (incarnation 0 1) 0) []
    ∷ turned 5 (kick 2) (did.Handled (incarnation 0 1) 1) []
    ∷ []

-- the definitions give these journals
abbrev pub UnhandledIsComputed : Type 0
UnhandledIsComputed = IsComputed model tables other_lines (starts_alone ∷ []) other_merge

-- ---- sixty-five lines, of which a poll takes sixty-four

-- the lines of the environment, each with its part
abbrev pub many_lines : List Line
many_lines = map (λ time. line 1 (kick time)) (range_with_len 1 65)

-- a kick is posted, and fetched at once
abbrev passed : ℕ → List Placed
passed time = posted (kick time) ∷ fetched (time + 1) (kick time) ∷ []

-- a kick that nothing handles, since the actor is in B
abbrev ignored : ℕ → Placed
ignored time = turned (time + 66) (kick time) (did.Unhandled (incarnation 0 1) 1) []

-- all other entries, by stamp and party
abbrev pub many_merge : List Placed
many_merge =
    flat_map passed (range_with_len 1 64)
    ++ (posted (kick 65)
    ∷ turned 66 (kick 1) (did.Handled (incarnation 0 1) 1) []
    ∷ fetched 67 (kick 65)
    ∷ map ignored (range_with_len 2 64))

-- the definitions give these journals
abbrev pub SixtyFiveIsComputed : Type 0
SixtyFiveIsComputed = IsComputed model tables many_lines (starts_alone ∷ []) many_merge
