-- A user withdraws what it never registered.
use Rattle.std.specs.Prelude.{ℕ, pos, ◌==◌, if◌then◌else◌, List, [], ◌∷◌, Some}
use Rattle.room_kinds.specs.declared.message.Msg.{Msg}
use Rattle.room_kinds.specs.declared.command.Command.TheVariants as commands
use Rattle.room_kinds.specs.declared.command.NameCommand.TheVariants as names
use Rattle.journal.specs.declared.entry.Did.TheVariants as did
use Rattle.journal.specs.declared.entry.Entry.{Entry}
use Rattle.journal.specs.declared.entry.Entry.TheVariants as entry
use Rattle.actor_merge.specs.Parties.{Line}
use Rattle.actor_merge.specs.World.{Placed}
use Rattle.actor_duties.specs.Words.{incarnation, endpoint}
use Rattle.actor_world.specs.Behaviour.{Behaviour}
use Rattle.worked_examples.specs.worlds.Writing.{msg, posted, fetched, turned, IsComputed}
pub use Rattle.worked_examples.specs.worlds.models.Providers.{tables}
use Rattle.worked_examples.specs.worlds.models.Providers.{model_with}

-- the behaviour of all actors: as they begin, actor 1 withdraws its port 1, and actors 2 and 3 register theirs under name 0
abbrev pub model : Behaviour ℕ
model = model_with (λ x. if x.slot.0 == 0 then [] else if x.slot.0 == 1 then commands.Name (names.Withdraw 1) ∷ [] else commands.Name (names.Register 1 0) ∷ [])

-- what party 0 posts at time 1
abbrev m0_1 : Msg
m0_1 = msg 0 0 3 1 (Some (endpoint 1 1 0 0)) (endpoint 1 1 0 0) 8 (pos 1 ∷ pos 9 ∷ [])

-- what party 0 posts at time 2
abbrev m0_2 : Msg
m0_2 = msg 0 0 0 2 (Some (endpoint 2 1 1 0)) (endpoint 2 1 1 0) 12 (pos 0 ∷ [])

-- what party 0 posts at time 3
abbrev m0_3 : Msg
m0_3 = msg 0 0 0 3 (Some (endpoint 3 1 1 0)) (endpoint 3 1 1 0) 12 (pos 0 ∷ [])

-- what party 0 posts at time 8
abbrev m0_8 : Msg
m0_8 = msg 0 0 0 8 (Some (endpoint 2 1 1 0)) (endpoint 2 1 1 0) 16 (pos 0 ∷ [])

-- what party 0 posts at time 11
abbrev m0_11 : Msg
m0_11 = msg 0 0 0 11 (Some (endpoint 3 1 1 0)) (endpoint 3 1 1 0) 16 (pos 8 ∷ [])

-- what party 0 posts at time 14
abbrev m0_14 : Msg
m0_14 = msg 0 0 3 14 (Some (endpoint 2 1 0 0)) (endpoint 2 1 0 0) 6 (pos 1 ∷ [])

-- what party 0 posts at time 17
abbrev m0_17 : Msg
m0_17 = msg 0 0 3 17 (Some (endpoint 3 1 0 0)) (endpoint 3 1 0 0) 8 (pos 1 ∷ pos 8 ∷ [])

-- the lines of the environment, each with its part
abbrev pub lines : List Line
lines = []

-- how the journal of controller 0 begins
abbrev pub starts0 : List Entry
starts0 = entry.Start (incarnation 0 1) 65535 [] ∷ entry.Start (incarnation 1 1) 0 [] ∷ entry.Start (incarnation 2 1) 0 [] ∷ entry.Start (incarnation 3 1) 0 [] ∷ []

-- all other entries, by stamp and party
abbrev pub merge : List Placed
merge =
    posted m0_1
    ∷ posted m0_2
    ∷ posted m0_3
    ∷ fetched 4 m0_1
    ∷ fetched 5 m0_2
    ∷ fetched 6 m0_3
    ∷ turned 7 m0_2 did.Duty []
    ∷ posted m0_8
    ∷ fetched 9 m0_8
    ∷ turned 10 m0_3 did.Duty []
    ∷ posted m0_11
    ∷ fetched 12 m0_11
    ∷ turned 13 m0_8 did.Duty []
    ∷ posted m0_14
    ∷ fetched 15 m0_14
    ∷ turned 16 m0_11 did.Duty []
    ∷ posted m0_17
    ∷ fetched 18 m0_17
    ∷ turned 19 m0_1 (did.Unhandled (incarnation 1 1) 0) []
    ∷ turned 20 m0_14 (did.Unhandled (incarnation 2 1) 0) []
    ∷ turned 21 m0_17 (did.Unhandled (incarnation 3 1) 0) []
    ∷ []

-- the definitions give these journals
abbrev pub WithdrawalIsComputed : Type 0
WithdrawalIsComputed = IsComputed model tables lines (starts0 ∷ []) merge
