-- Lines at two priorities, and a later part that begins when all is quiet.
use Rattle.std.specs.Prelude.{ℕ, ◌==◌, ◌&&◌, if◌then◌else◌, List, [], ◌∷◌, None}
use Rattle.room_kinds.specs.declared.message.Msg.{Msg}
use Rattle.room_kinds.specs.declared.numbers.Incarnation.{Incarnation}
use Rattle.journal.specs.declared.entry.Did.TheVariants as did
use Rattle.actor_merge.specs.Parties.{Line}
use Rattle.actor_merge.specs.World.{Placed}
use Rattle.actor_duties.specs.Words.{incarnation, endpoint}
use Rattle.actor_world.specs.Behaviour.{Behaviour}
use Rattle.worked_examples.specs.worlds.Writing.{starts_alone, msg, line, posted, fetched, turned, Step, handled, unhandled, behaviour_of, IsComputed}
pub use Rattle.worked_examples.specs.worlds.models.OnePort.{tables}

-- what the actors do: from state 0 a kick (signal 0) leads to state 1
abbrev step : Incarnation → ℕ → Msg → Step
step x s m =
    if (s == 0) && (m.signal == 0) then handled 1 [] else unhandled s

-- the behaviour of all actors
abbrev pub model : Behaviour ℕ
model = behaviour_of (λ x. 0) (λ x. []) step

-- what party 1 posts at time 1
abbrev m1_1 : Msg
m1_1 = msg 1 0 4 1 None (endpoint 0 0 1 0) 1 []

-- what party 1 posts at time 2
abbrev m1_2 : Msg
m1_2 = msg 1 0 1 2 None (endpoint 0 0 1 0) 0 []

-- what party 1 posts at time 6
abbrev m1_6 : Msg
m1_6 = msg 1 0 3 6 None (endpoint 0 0 1 0) 1 []

-- the lines of the environment, each with its part
abbrev pub lines : List Line
lines = line 1 m1_1 ∷ line 1 m1_2 ∷ line 2 m1_6 ∷ []

-- all other entries, by stamp and party
abbrev pub merge : List Placed
merge =
    posted m1_1
    ∷ fetched 2 m1_1
    ∷ posted m1_2
    ∷ fetched 3 m1_2
    ∷ turned 4 m1_2 (did.Handled (incarnation 0 1) 1) []
    ∷ turned 5 m1_1 (did.Unhandled (incarnation 0 1) 1) []
    ∷ posted m1_6
    ∷ fetched 7 m1_6
    ∷ turned 8 m1_6 (did.Unhandled (incarnation 0 1) 1) []
    ∷ []

-- the definitions give these journals
abbrev pub PartsIsComputed : Type 0
PartsIsComputed = IsComputed model tables lines (starts_alone ∷ []) merge
