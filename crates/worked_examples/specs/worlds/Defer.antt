-- Messages are kept for later, and come back in front, in their order.
use Rattle.std.specs.Prelude.{ℕ, pos, ◌==◌, ◌&&◌, if◌then◌else◌, List, [], ◌∷◌, None}
use Rattle.room_kinds.specs.declared.message.Msg.{Msg}
use Rattle.room_kinds.specs.declared.note.Note.TheVariants as notes
use Rattle.room_kinds.specs.declared.numbers.Incarnation.{Incarnation}
use Rattle.room_kinds.specs.declared.command.Command.TheVariants as commands
use Rattle.journal.specs.declared.entry.Did.TheVariants as did
use Rattle.actor_merge.specs.Parties.{Line}
use Rattle.actor_merge.specs.World.{Placed}
use Rattle.actor_duties.specs.Words.{incarnation, endpoint}
use Rattle.actor_world.specs.Behaviour.{Behaviour, Deferred}
use Rattle.worked_examples.specs.worlds.Writing.{starts_alone, msg, line, posted, fetched, turned, Step, handled, behaviour_of, IsComputed}
pub use Rattle.worked_examples.specs.worlds.models.OnePort.{tables}

-- what the actors do: in state 0 an `a` (signal 2) is deferred, and a kick (0) recalls all and leads to state 1
abbrev step : Incarnation → ℕ → Msg → Step
step x s m =
    if (s == 0) && (m.signal == 2) then record { state = 0; result = Deferred; commands = commands.Defer ∷ [] }
    else if s == 0 then handled 1 (commands.RecallAll ∷ [])
    else handled 1 []

-- the behaviour of all actors
abbrev pub model : Behaviour ℕ
model = behaviour_of (λ x. 0) (λ x. []) step

-- what party 1 posts at time 1
abbrev m1_1 : Msg
m1_1 = msg 1 0 3 1 None (endpoint 0 0 1 0) 2 (pos 1 ∷ [])

-- what party 1 posts at time 2
abbrev m1_2 : Msg
m1_2 = msg 1 0 3 2 None (endpoint 0 0 1 0) 2 (pos 2 ∷ [])

-- what party 1 posts at time 3
abbrev m1_3 : Msg
m1_3 = msg 1 0 3 3 None (endpoint 0 0 1 0) 0 []

-- what party 1 posts at time 4
abbrev m1_4 : Msg
m1_4 = msg 1 0 3 4 None (endpoint 0 0 1 0) 2 (pos 3 ∷ [])

-- the lines of the environment, each with its part
abbrev pub lines : List Line
lines = line 1 m1_1 ∷ line 1 m1_2 ∷ line 1 m1_3 ∷ line 1 m1_4 ∷ []

-- all other entries, by stamp and party
abbrev pub merge : List Placed
merge =
    posted m1_1
    ∷ fetched 2 m1_1
    ∷ posted m1_2
    ∷ fetched 3 m1_2
    ∷ posted m1_3
    ∷ fetched 4 m1_3
    ∷ posted m1_4
    ∷ fetched 5 m1_4
    ∷ turned 6 m1_1 (did.Deferred (incarnation 0 1) 0) []
    ∷ turned 7 m1_2 (did.Deferred (incarnation 0 1) 0) []
    ∷ turned 8 m1_3 (did.Handled (incarnation 0 1) 1) (notes.Recall 2 ∷ [])
    ∷ turned 9 m1_1 (did.Handled (incarnation 0 1) 1) []
    ∷ turned 10 m1_2 (did.Handled (incarnation 0 1) 1) []
    ∷ turned 11 m1_4 (did.Handled (incarnation 0 1) 1) []
    ∷ []

-- the definitions give these journals
abbrev pub DeferIsComputed : Type 0
DeferIsComputed = IsComputed model tables lines (starts_alone ∷ []) merge
