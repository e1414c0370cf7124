-- A user and a provider meet by a name, and a second provider is refused.
use Rattle.std.specs.Prelude.{ℕ, pos, ◌==◌, if◌then◌else◌, List, [], ◌∷◌, Some}
use Rattle.room_kinds.specs.declared.message.Msg.{Msg}
use Rattle.room_kinds.specs.declared.command.Command.TheVariants as commands
use Rattle.room_kinds.specs.declared.command.NameCommand.TheVariants as names
use Rattle.journal.specs.declared.entry.Did.TheVariants as did
use Rattle.journal.specs.declared.entry.Entry.{Entry}
use Rattle.journal.specs.declared.entry.Entry.TheVariants as entry
use Rattle.actor_merge.specs.Parties.{Line}
use Rattle.actor_merge.specs.World.{Placed}
use Rattle.actor_duties.specs.Words.{incarnation, endpoint}
use Rattle.actor_world.specs.Behaviour.{Behaviour}
use Rattle.worked_examples.specs.worlds.Writing.{msg, posted, fetched, turned, IsComputed}
pub use Rattle.worked_examples.specs.worlds.models.Providers.{tables}
use Rattle.worked_examples.specs.worlds.models.Providers.{model_with}

-- the behaviour of all actors: actors 1, 2 and 3 register at their port 1 under name 0 as they begin
abbrev pub model : Behaviour ℕ
model = model_with (λ x. if x.slot.0 == 0 then [] else commands.Name (names.Register 1 0) ∷ [])

-- what party 0 posts at time 1
abbrev m0_1 : Msg
m0_1 = msg 0 0 0 1 (Some (endpoint 1 1 1 0)) (endpoint 1 1 1 0) 12 (pos 0 ∷ [])

-- what party 0 posts at time 2
abbrev m0_2 : Msg
m0_2 = msg 0 0 0 2 (Some (endpoint 2 1 1 0)) (endpoint 2 1 1 0) 12 (pos 0 ∷ [])

-- what party 0 posts at time 3
abbrev m0_3 : Msg
m0_3 = msg 0 0 0 3 (Some (endpoint 3 1 1 0)) (endpoint 3 1 1 0) 12 (pos 0 ∷ [])

-- what party 0 posts at time 8
abbrev m0_8 : Msg
m0_8 = msg 0 0 0 8 (Some (endpoint 1 1 1 0)) (endpoint 1 1 1 0) 16 (pos 0 ∷ [])

-- what party 0 posts at time 11
abbrev m0_11 : Msg
m0_11 = msg 0 0 0 11 (Some (endpoint 2 1 1 0)) (endpoint 2 1 1 0) 16 (pos 0 ∷ [])

-- what party 0 posts at time 12
abbrev m0_12 : Msg
m0_12 = msg 0 0 0 12 (Some (endpoint 1 1 1 0)) (endpoint 2 1 1 0) 14 []

-- what party 0 posts at time 13
abbrev m0_13 : Msg
m0_13 = msg 0 0 0 13 (Some (endpoint 2 1 1 0)) (endpoint 1 1 1 0) 14 []

-- what party 0 posts at time 18
abbrev m0_18 : Msg
m0_18 = msg 0 0 0 18 (Some (endpoint 3 1 1 0)) (endpoint 3 1 1 0) 16 (pos 8 ∷ [])

-- what party 0 posts at time 21
abbrev m0_21 : Msg
m0_21 = msg 0 0 3 21 (Some (endpoint 1 1 0 0)) (endpoint 1 1 0 0) 6 (pos 1 ∷ [])

-- what party 0 posts at time 24
abbrev m0_24 : Msg
m0_24 = msg 0 0 3 24 (Some (endpoint 2 1 0 0)) (endpoint 2 1 0 0) 6 (pos 1 ∷ [])

-- what party 0 posts at time 29
abbrev m0_29 : Msg
m0_29 = msg 0 0 3 29 (Some (endpoint 3 1 0 0)) (endpoint 3 1 0 0) 8 (pos 1 ∷ pos 8 ∷ [])

-- the lines of the environment, each with its part
abbrev pub lines : List Line
lines = []

-- how the journal of controller 0 begins
abbrev pub starts0 : List Entry
starts0 = entry.Start (incarnation 0 1) 65535 [] ∷ entry.Start (incarnation 1 1) 0 [] ∷ entry.Start (incarnation 2 1) 0 [] ∷ entry.Start (incarnation 3 1) 0 [] ∷ []

-- all other entries, by stamp and party
abbrev pub merge : List Placed
merge =
    posted m0_1
    ∷ posted m0_2
    ∷ posted m0_3
    ∷ fetched 4 m0_1
    ∷ fetched 5 m0_2
    ∷ fetched 6 m0_3
    ∷ turned 7 m0_1 did.Duty []
    ∷ posted m0_8
    ∷ fetched 9 m0_8
    ∷ turned 10 m0_2 did.Duty []
    ∷ posted m0_11
    ∷ posted m0_12
    ∷ posted m0_13
    ∷ fetched 14 m0_11
    ∷ fetched 15 m0_12
    ∷ fetched 16 m0_13
    ∷ turned 17 m0_3 did.Duty []
    ∷ posted m0_18
    ∷ fetched 19 m0_18
    ∷ turned 20 m0_8 did.Duty []
    ∷ posted m0_21
    ∷ fetched 22 m0_21
    ∷ turned 23 m0_11 did.Duty []
    ∷ posted m0_24
    ∷ fetched 25 m0_24
    ∷ turned 26 m0_12 did.Duty []
    ∷ turned 27 m0_13 did.Duty []
    ∷ turned 28 m0_18 did.Duty []
    ∷ posted m0_29
    ∷ fetched 30 m0_29
    ∷ turned 31 m0_21 (did.Unhandled (incarnation 1 1) 0) []
    ∷ turned 32 m0_24 (did.Unhandled (incarnation 2 1) 0) []
    ∷ turned 33 m0_29 (did.Unhandled (incarnation 3 1) 0) []
    ∷ []

-- the definitions give these journals
abbrev pub ProviderIsComputed : Type 0
ProviderIsComputed = IsComputed model tables lines (starts0 ∷ []) merge
