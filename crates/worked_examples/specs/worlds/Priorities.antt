-- A message of a higher priority overtakes one that came before it.
use Rattle.std.specs.Prelude.{ℕ, pos, if◌then◌else◌, List, [], ◌∷◌, Some, None}
use Rattle.room_kinds.specs.declared.message.Msg.{Msg}
use Rattle.room_kinds.specs.declared.numbers.Incarnation.{Incarnation}
use Rattle.room_kinds.specs.declared.command.Command.TheVariants as commands
use Rattle.journal.specs.declared.entry.Did.TheVariants as did
use Rattle.actor_merge.specs.Parties.{Line}
use Rattle.actor_merge.specs.World.{Placed}
use Rattle.actor_duties.specs.Words.{incarnation, endpoint}
use Rattle.actor_world.specs.Behaviour.{Behaviour}
use Rattle.worked_examples.specs.worlds.Writing.{msg, line, posted, fetched, turned, Step, chartless_top, is_at, handled, behaviour_of, IsComputed}
pub use Rattle.worked_examples.specs.worlds.models.Pair.{on_one_controller as tables}
use Rattle.worked_examples.specs.worlds.models.Pair.{starts}

-- what the actors do: at a kick actor 1 sends `ping` with 1 at priority 5 and with 2 at priority 1
abbrev step : Incarnation → ℕ → Msg → Step
step x s m =
    if is_at 1 2 m
    then handled 0 (commands.Send 1 None 0 (pos 1 ∷ []) (record { 0 = 5 }) ∷ commands.Send 1 None 0 (pos 2 ∷ []) (record { 0 = 1 }) ∷ [])
    else handled 0 []

-- the behaviour of all actors
abbrev pub model : Behaviour ℕ
model = behaviour_of chartless_top (λ x. []) step

-- what party 1 posts at time 1
abbrev m1_1 : Msg
m1_1 = msg 1 0 3 1 None (endpoint 1 0 2 0) 0 []

-- what party 0 posts at time 4
abbrev m0_4 : Msg
m0_4 = msg 0 0 5 4 (Some (endpoint 1 1 1 0)) (endpoint 2 1 1 0) 0 (pos 1 ∷ [])

-- what party 0 posts at time 5
abbrev m0_5 : Msg
m0_5 = msg 0 0 1 5 (Some (endpoint 1 1 1 0)) (endpoint 2 1 1 0) 0 (pos 2 ∷ [])

-- the lines of the environment, each with its part
abbrev pub lines : List Line
lines = line 1 m1_1 ∷ []

-- all other entries, by stamp and party
abbrev pub merge : List Placed
merge =
    posted m1_1
    ∷ fetched 2 m1_1
    ∷ turned 3 m1_1 (did.Handled (incarnation 1 1) 0) []
    ∷ posted m0_4
    ∷ posted m0_5
    ∷ fetched 6 m0_4
    ∷ fetched 7 m0_5
    ∷ turned 8 m0_5 (did.Handled (incarnation 2 1) 0) []
    ∷ turned 9 m0_4 (did.Handled (incarnation 2 1) 0) []
    ∷ []

-- the definitions give these journals
abbrev pub PrioritiesIsComputed : Type 0
PrioritiesIsComputed = IsComputed model tables lines (starts ∷ []) merge
