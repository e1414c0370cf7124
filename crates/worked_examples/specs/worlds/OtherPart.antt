-- What is fixed in an optional actor lives on another controller, and comes and goes with it.
use Rattle.std.specs.Prelude.{ℕ, pos, ◌==◌, ◌&&◌, if◌then◌else◌, List, [], ◌∷◌, Some, None}
use Rattle.room_kinds.specs.declared.message.Msg.{Msg}
use Rattle.room_kinds.specs.declared.note.Note.TheVariants as notes
use Rattle.room_kinds.specs.declared.numbers.Incarnation.{Incarnation}
use Rattle.room_kinds.specs.declared.command.Command.TheVariants as commands
use Rattle.room_kinds.specs.declared.command.FrameCommand.TheVariants as frame
use Rattle.journal.specs.declared.entry.Did.TheVariants as did
use Rattle.journal.specs.declared.entry.Entry.{Entry}
use Rattle.room_wiring.specs.declared.tables.Tables.{Tables}
use Rattle.room_kinds.specs.declared.structure.ReferenceKind.TheVariants.{Fixed, Optional}
use Rattle.room_wiring.specs.declared.slot.Partner.TheVariants.{Nobody, End}
use Rattle.room_kinds.specs.declared.structure.PortKind.TheVariants as ports
use Rattle.actor_merge.specs.Parties.{Line}
use Rattle.actor_merge.specs.World.{Placed}
use Rattle.actor_duties.specs.Words.{incarnation, endpoint}
use Rattle.actor_world.specs.Behaviour.{Behaviour}
use Rattle.worked_examples.specs.worlds.Writing.{slot, class, port, single_places, told_nobody, starts_alone, msg, line, posted, fetched, turned, Step, first_of, is_at, handled, behaviour_of, IsComputed}

-- the wiring of the model: the actor of slot 2 is fixed in the optional one of slot 1
abbrev pub tables : Tables
tables = record {
  slots =
      slot 1 Fixed None 0 0 0
      ∷ slot 0 Optional (Some (record { 0 = 0 })) 0 0 0
      ∷ slot 2 Fixed (Some (record { 0 = 1 })) 1 0 0
      ∷ [];
  controllers = [] ∷ [] ∷ [];
  classes =
      class (port ports.Frame None ∷ port ports.End (Some 0) ∷ [])
      ∷ class (port ports.Frame None ∷ port ports.Internal (Some 0) ∷ port ports.Internal (Some 0) ∷ [])
      ∷ class (port ports.Frame None ∷ [])
      ∷ [];
  first_ports = 0 ∷ 3 ∷ 5 ∷ [];
  ports = single_places 6;
  partners =
      Nobody
      ∷ Nobody
      ∷ End (record { 0 = 1 }) 1 0
      ∷ Nobody
      ∷ End (record { 0 = 0 }) 2 0
      ∷ Nobody
      ∷ [];
  told = told_nobody 3 2;
}

-- what the actors do: the top actor takes `make` (signal 0) and `late` (2) at port 1, and all else
-- without a command
abbrev step : Incarnation → ℕ → Msg → Step
step x s m =
    if is_at 0 1 m && (m.signal == 0) then handled 0 (commands.Frame (frame.Incarnate 0 (first_of m.payload)) ∷ [])
    else if is_at 0 1 m
    then handled 0 (commands.Frame (frame.Destroy 0 (pos 0)) ∷ commands.Send 2 (Some (pos 0)) 3 [] (record { 0 = 3 }) ∷ [])
    else handled 0 []

-- the behaviour of all actors: each is in state 0 from its initial transition on
abbrev pub model : Behaviour ℕ
model = behaviour_of (λ x. 0) (λ x. []) step

-- what party 2 posts at time 1
abbrev m2_1 : Msg
m2_1 = msg 2 0 3 1 None (endpoint 0 0 1 0) 0 (pos 0 ∷ [])

-- what party 0 posts at time 4
abbrev m0_4 : Msg
m0_4 = msg 0 0 0 4 (Some (endpoint 0 1 0 0)) (endpoint 1 0 0 0) 0 []

-- what party 0 posts at time 7
abbrev m0_7 : Msg
m0_7 = msg 0 1 0 7 (Some (endpoint 1 1 0 0)) (endpoint 1 1 0 0) 17 []

-- what party 0 posts at time 8
abbrev m0_8 : Msg
m0_8 = msg 0 0 0 8 (Some (endpoint 1 1 0 0)) (endpoint 0 1 0 0) 1 []

-- what party 0 posts at time 11
abbrev m0_11 : Msg
m0_11 = msg 0 0 3 11 (Some (endpoint 1 1 0 0)) (endpoint 0 1 0 0) 0 (pos 0 ∷ pos 0 ∷ pos 1048577 ∷ [])

-- what party 2 posts at time 14
abbrev m2_14 : Msg
m2_14 = msg 2 0 3 14 None (endpoint 0 0 1 0) 2 []

-- what party 0 posts at time 17
abbrev m0_17 : Msg
m0_17 = msg 0 0 0 17 (Some (endpoint 0 1 0 0)) (endpoint 1 0 0 0) 3 []

-- what party 0 posts at time 18
abbrev m0_18 : Msg
m0_18 = msg 0 0 3 18 (Some (endpoint 0 1 2 0)) (endpoint 1 1 1 0) 3 []

-- what party 0 posts at time 22
abbrev m0_22 : Msg
m0_22 = msg 0 1 0 22 (Some (endpoint 1 1 0 0)) (endpoint 1 1 0 0) 18 []

-- what party 0 posts at time 23
abbrev m0_23 : Msg
m0_23 = msg 0 0 0 23 (Some (endpoint 1 1 0 0)) (endpoint 0 1 0 0) 4 (pos 0 ∷ [])

-- what party 0 posts at time 26
abbrev m0_26 : Msg
m0_26 = msg 0 0 3 26 (Some (endpoint 1 1 0 0)) (endpoint 0 1 0 0) 1 (pos 0 ∷ pos 0 ∷ pos 1048577 ∷ [])

-- the lines of the environment, each with its part
abbrev pub lines : List Line
lines = line 1 m2_1 ∷ line 2 m2_14 ∷ []

-- how the journal of controller 1 begins
abbrev pub starts1 : List Entry
starts1 = []

-- all other entries, by stamp and party
abbrev pub merge : List Placed
merge =
    posted m2_1
    ∷ fetched 2 m2_1
    ∷ turned 3 m2_1 (did.Handled (incarnation 0 1) 0) []
    ∷ posted m0_4
    ∷ fetched 5 m0_4
    ∷ turned 6 m0_4 did.Duty (notes.Up (incarnation 1 1) 0 ∷ [])
    ∷ posted m0_7
    ∷ posted m0_8
    ∷ fetched 8 m0_7
    ∷ fetched 9 m0_8
    ∷ turned 9 m0_7 did.Duty (notes.Up (incarnation 2 1) 0 ∷ [])
    ∷ turned 10 m0_8 did.Duty []
    ∷ posted m0_11
    ∷ fetched 12 m0_11
    ∷ turned 13 m0_11 (did.Handled (incarnation 0 1) 0) []
    ∷ posted m2_14
    ∷ fetched 15 m2_14
    ∷ turned 16 m2_14 (did.Handled (incarnation 0 1) 0) []
    ∷ posted m0_17
    ∷ posted m0_18
    ∷ fetched 19 m0_18
    ∷ fetched 20 m0_17
    ∷ turned 21 m0_17 did.Duty (notes.Down (incarnation 1 1) 0 ∷ [])
    ∷ posted m0_22
    ∷ posted m0_23
    ∷ fetched 23 m0_22
    ∷ fetched 24 m0_23
    ∷ turned 24 m0_22 did.Duty (notes.Down (incarnation 2 1) 0 ∷ [])
    ∷ turned 25 m0_23 did.Duty []
    ∷ posted m0_26
    ∷ fetched 27 m0_26
    ∷ turned 28 m0_18 (did.Empty (incarnation 1 1)) []
    ∷ turned 29 m0_26 (did.Handled (incarnation 0 1) 0) []
    ∷ []

-- the definitions give these journals
abbrev pub OtherPartIsComputed : Type 0
OtherPartIsComputed = IsComputed model tables lines (starts_alone ∷ starts1 ∷ []) merge
