-- A send on all places of a port, one of which leads to a slot where nobody stands.
use Rattle.std.specs.Prelude.{ℕ, pos, if◌then◌else◌, List, [], ◌∷◌, Some, None}
use Rattle.room_kinds.specs.declared.message.Msg.{Msg}
use Rattle.room_kinds.specs.declared.note.Note.TheVariants as notes
use Rattle.room_kinds.specs.declared.numbers.Incarnation.{Incarnation}
use Rattle.room_kinds.specs.declared.command.Command.TheVariants as commands
use Rattle.journal.specs.declared.entry.Did.TheVariants as did
use Rattle.journal.specs.declared.entry.Entry.{Entry}
use Rattle.journal.specs.declared.entry.Entry.TheVariants as entry
use Rattle.room_wiring.specs.declared.tables.Tables.{Tables}
use Rattle.room_kinds.specs.declared.structure.ReferenceKind.TheVariants.{Fixed, Optional}
use Rattle.room_wiring.specs.declared.slot.Partner.TheVariants.{Nobody, End}
use Rattle.room_kinds.specs.declared.structure.PortKind.TheVariants as ports
use Rattle.actor_merge.specs.Parties.{Line}
use Rattle.actor_merge.specs.World.{Placed}
use Rattle.actor_duties.specs.Words.{incarnation, endpoint}
use Rattle.actor_world.specs.Behaviour.{Behaviour}
use Rattle.worked_examples.specs.worlds.Writing.{slot, class, port, span, told_nobody, msg, line, posted, fetched, turned, Step, is_at, handled, behaviour_of, IsComputed}

-- the wiring of the model
abbrev pub tables : Tables
tables = record {
  slots =
      slot 1 Fixed None 0 0 0
      ∷ slot 0 Fixed (Some (record { 0 = 0 })) 0 0 0
      ∷ slot 0 Fixed (Some (record { 0 = 0 })) 0 0 1
      ∷ slot 0 Optional (Some (record { 0 = 0 })) 0 1 0
      ∷ [];
  controllers = [] ∷ [];
  classes =
      class (port ports.Frame None ∷ port ports.End (Some 0) ∷ [])
      ∷ class (port ports.Frame None ∷ port ports.Internal (Some 0) ∷ port ports.Internal (Some 0) ∷ [])
      ∷ [];
  first_ports = 0 ∷ 3 ∷ 5 ∷ 7 ∷ [];
  ports =
      span 0 1
      ∷ span 1 1
      ∷ span 2 3
      ∷ span 5 1
      ∷ span 6 1
      ∷ span 7 1
      ∷ span 8 1
      ∷ span 9 1
      ∷ span 10 1
      ∷ [];
  partners =
      Nobody
      ∷ Nobody
      ∷ End (record { 0 = 1 }) 1 0
      ∷ End (record { 0 = 2 }) 1 0
      ∷ End (record { 0 = 3 }) 1 0
      ∷ Nobody
      ∷ End (record { 0 = 0 }) 2 0
      ∷ Nobody
      ∷ End (record { 0 = 0 }) 2 1
      ∷ Nobody
      ∷ End (record { 0 = 0 }) 2 2
      ∷ [];
  told = told_nobody 4 1;
}

-- what the actors do: at a `make` the top actor sends `t` (signal 3) on all places of port 2
abbrev step : Incarnation → ℕ → Msg → Step
step x s m = if is_at 0 1 m then handled 0 (commands.Send 2 None 3 [] (record { 0 = 3 }) ∷ []) else handled 0 []

-- the behaviour of all actors
abbrev pub model : Behaviour ℕ
model = behaviour_of (λ x. 0) (λ x. []) step

-- what party 1 posts at time 1
abbrev m1_1 : Msg
m1_1 = msg 1 0 3 1 None (endpoint 0 0 1 0) 0 (pos 0 ∷ [])

-- what party 0 posts at time 4
abbrev m0_4 : Msg
m0_4 = msg 0 0 3 4 (Some (endpoint 0 1 2 0)) (endpoint 1 1 1 0) 3 []

-- what party 0 posts at time 5
abbrev m0_5 : Msg
m0_5 = msg 0 0 3 5 (Some (endpoint 0 1 2 1)) (endpoint 2 1 1 0) 3 []

-- the lines of the environment, each with its part
abbrev pub lines : List Line
lines = line 1 m1_1 ∷ []

-- how the journal of controller 0 begins
abbrev pub starts0 : List Entry
starts0 = entry.Start (incarnation 0 1) 0 [] ∷ entry.Start (incarnation 1 1) 0 [] ∷ entry.Start (incarnation 2 1) 0 [] ∷ []

-- all other entries, by stamp and party
abbrev pub merge : List Placed
merge =
    posted m1_1
    ∷ fetched 2 m1_1
    ∷ turned 3 m1_1 (did.Handled (incarnation 0 1) 0) (notes.Unbound 2 (pos 2) ∷ [])
    ∷ posted m0_4
    ∷ posted m0_5
    ∷ fetched 6 m0_4
    ∷ fetched 7 m0_5
    ∷ turned 8 m0_4 (did.Handled (incarnation 1 1) 0) []
    ∷ turned 9 m0_5 (did.Handled (incarnation 2 1) 0) []
    ∷ []

-- the definitions give these journals
abbrev pub BroadcastIsComputed : Type 0
BroadcastIsComputed = IsComputed model tables lines (starts0 ∷ []) merge
