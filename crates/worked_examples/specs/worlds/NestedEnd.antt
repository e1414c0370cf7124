-- An optional actor ends with all that ends with it, over two controllers: what is fixed in it lives on
-- the other one, which made an optional actor in that, of which a part lives on the first one again.
use Rattle.std.specs.Prelude.{ℕ, pos, ◌==◌, ◌&&◌, if◌then◌else◌, List, [], ◌∷◌, Some, None}
use Rattle.room_kinds.specs.declared.message.Msg.{Msg}
use Rattle.room_kinds.specs.declared.note.Note.TheVariants as notes
use Rattle.room_kinds.specs.declared.numbers.Incarnation.{Incarnation}
use Rattle.room_kinds.specs.declared.command.Command.TheVariants as commands
use Rattle.room_kinds.specs.declared.command.FrameCommand.TheVariants as frame
use Rattle.journal.specs.declared.entry.Did.TheVariants as did
use Rattle.journal.specs.declared.entry.Entry.{Entry}
use Rattle.room_wiring.specs.declared.tables.Tables.{Tables}
use Rattle.room_kinds.specs.declared.structure.ReferenceKind.TheVariants.{Fixed, Optional}
use Rattle.room_wiring.specs.declared.slot.Partner.TheVariants.{Nobody}
use Rattle.room_kinds.specs.declared.structure.PortKind.TheVariants as ports
use Rattle.actor_merge.specs.Parties.{Line}
use Rattle.actor_merge.specs.World.{Placed}
use Rattle.actor_duties.specs.Words.{incarnation, endpoint}
use Rattle.actor_world.specs.Behaviour.{Behaviour}
use Rattle.worked_examples.specs.worlds.Writing.{slot, class, port, single_places, told_nobody, starts_alone, msg, line, posted, fetched, turned, Step, is_at, handled, behaviour_of, IsComputed}

-- the wiring of the model, each slot in the one before it: the optional slots 1 and 3, and what is
-- fixed in them, 2 and 4. The slots 2 and 3 are on controller 1
abbrev pub tables : Tables
tables = record {
  slots =
      slot 1 Fixed None 0 0 0
      ∷ slot 0 Optional (Some (record { 0 = 0 })) 0 0 0
      ∷ slot 0 Fixed (Some (record { 0 = 1 })) 1 0 0
      ∷ slot 0 Optional (Some (record { 0 = 2 })) 1 0 0
      ∷ slot 0 Fixed (Some (record { 0 = 3 })) 0 0 0
      ∷ [];
  controllers = [] ∷ [] ∷ [];
  classes = class (port ports.Frame None ∷ []) ∷ class (port ports.Frame None ∷ port ports.Internal (Some 0) ∷ []) ∷ [];
  first_ports = 0 ∷ 2 ∷ 3 ∷ 4 ∷ 5 ∷ [];
  ports = single_places 6;
  partners =
      Nobody
      ∷ Nobody
      ∷ Nobody
      ∷ Nobody
      ∷ Nobody
      ∷ Nobody
      ∷ [];
  told = told_nobody 5 2;
}

-- what the actors do: the top actor takes `make` (signal 0) and `end` (1) at port 1, and all else
-- without a command
abbrev step : Incarnation → ℕ → Msg → Step
step x s m =
    if is_at 0 1 m && (m.signal == 0) then handled 0 (commands.Frame (frame.Incarnate 0 (pos 0)) ∷ [])
    else if is_at 0 1 m then handled 0 (commands.Frame (frame.Destroy 0 (pos 0)) ∷ [])
    else handled 0 []

-- the behaviour of all actors: each is in state 0 from its initial transition on, in which the actor of
-- slot 2 makes the one of slot 3
abbrev pub model : Behaviour ℕ
model = behaviour_of (λ x. 0) (λ x. if x.slot.0 == 2 then commands.Frame (frame.Incarnate 0 (pos 0)) ∷ [] else []) step

-- what party 2 posts at time 1
abbrev m2_1 : Msg
m2_1 = msg 2 0 3 1 None (endpoint 0 0 1 0) 0 []

-- what party 0 posts at time 4
abbrev m0_4 : Msg
m0_4 = msg 0 0 0 4 (Some (endpoint 0 1 0 0)) (endpoint 1 0 0 0) 0 []

-- what party 0 posts at time 7
abbrev m0_7 : Msg
m0_7 = msg 0 1 0 7 (Some (endpoint 1 1 0 0)) (endpoint 1 1 0 0) 17 []

-- what party 0 posts at time 8
abbrev m0_8 : Msg
m0_8 = msg 0 0 0 8 (Some (endpoint 1 1 0 0)) (endpoint 0 1 0 0) 1 []

-- what party 1 posts at time 10
abbrev m1_10 : Msg
m1_10 = msg 1 1 0 10 (Some (endpoint 2 1 0 0)) (endpoint 3 0 0 0) 0 []

-- what party 0 posts at time 11
abbrev m0_11 : Msg
m0_11 = msg 0 0 3 11 (Some (endpoint 1 1 0 0)) (endpoint 0 1 0 0) 0 (pos 0 ∷ pos 0 ∷ pos 1048577 ∷ [])

-- what party 1 posts at time 13
abbrev m1_13 : Msg
m1_13 = msg 1 0 0 13 (Some (endpoint 3 1 0 0)) (endpoint 3 1 0 0) 17 []

-- what party 1 posts at time 14
abbrev m1_14 : Msg
m1_14 = msg 1 1 0 14 (Some (endpoint 3 1 0 0)) (endpoint 2 1 0 0) 1 []

-- what party 1 posts at time 17
abbrev m1_17 : Msg
m1_17 = msg 1 1 3 17 (Some (endpoint 3 1 0 0)) (endpoint 2 1 0 0) 0 (pos 0 ∷ pos 0 ∷ pos 3145729 ∷ [])

-- what party 2 posts at time 20
abbrev m2_20 : Msg
m2_20 = msg 2 0 3 20 None (endpoint 0 0 1 0) 1 []

-- what party 0 posts at time 23
abbrev m0_23 : Msg
m0_23 = msg 0 0 0 23 (Some (endpoint 0 1 0 0)) (endpoint 1 0 0 0) 3 []

-- what party 0 posts at time 26
abbrev m0_26 : Msg
m0_26 = msg 0 1 0 26 (Some (endpoint 1 1 0 0)) (endpoint 1 1 0 0) 18 []

-- what party 0 posts at time 27
abbrev m0_27 : Msg
m0_27 = msg 0 0 0 27 (Some (endpoint 1 1 0 0)) (endpoint 0 1 0 0) 4 (pos 0 ∷ [])

-- what party 1 posts at time 29
abbrev m1_29 : Msg
m1_29 = msg 1 0 0 29 (Some (endpoint 3 1 0 0)) (endpoint 3 1 0 0) 18 []

-- what party 0 posts at time 30
abbrev m0_30 : Msg
m0_30 = msg 0 0 3 30 (Some (endpoint 1 1 0 0)) (endpoint 0 1 0 0) 1 (pos 0 ∷ pos 0 ∷ pos 1048577 ∷ [])

-- the lines of the environment, each with its part
abbrev pub lines : List Line
lines = line 1 m2_1 ∷ line 2 m2_20 ∷ []

-- how the journal of controller 1 begins
abbrev pub starts1 : List Entry
starts1 = []

-- all other entries, by stamp and party
abbrev pub merge : List Placed
merge =
    posted m2_1
    ∷ fetched 2 m2_1
    ∷ turned 3 m2_1 (did.Handled (incarnation 0 1) 0) []
    ∷ posted m0_4
    ∷ fetched 5 m0_4
    ∷ turned 6 m0_4 did.Duty (notes.Up (incarnation 1 1) 0 ∷ [])
    ∷ posted m0_7
    ∷ posted m0_8
    ∷ fetched 8 m0_7
    ∷ fetched 9 m0_8
    ∷ turned 9 m0_7 did.Duty (notes.Up (incarnation 2 1) 0 ∷ [])
    ∷ turned 10 m0_8 did.Duty []
    ∷ posted m1_10
    ∷ posted m0_11
    ∷ fetched 11 m1_10
    ∷ fetched 12 m0_11
    ∷ turned 12 m1_10 did.Duty (notes.Up (incarnation 3 1) 0 ∷ [])
    ∷ turned 13 m0_11 (did.Handled (incarnation 0 1) 0) []
    ∷ posted m1_13
    ∷ fetched 14 m1_13
    ∷ posted m1_14
    ∷ turned 15 m1_13 did.Duty (notes.Up (incarnation 4 1) 0 ∷ [])
    ∷ fetched 15 m1_14
    ∷ turned 16 m1_14 did.Duty []
    ∷ posted m1_17
    ∷ fetched 18 m1_17
    ∷ turned 19 m1_17 (did.Handled (incarnation 2 1) 0) []
    ∷ posted m2_20
    ∷ fetched 21 m2_20
    ∷ turned 22 m2_20 (did.Handled (incarnation 0 1) 0) []
    ∷ posted m0_23
    ∷ fetched 24 m0_23
    ∷ turned 25 m0_23 did.Duty (notes.Down (incarnation 1 1) 0 ∷ [])
    ∷ posted m0_26
    ∷ posted m0_27
    ∷ fetched 27 m0_26
    ∷ fetched 28 m0_27
    ∷ turned 28 m0_26 did.Duty (notes.Down (incarnation 3 1) 0 ∷ notes.Down (incarnation 2 1) 0 ∷ [])
    ∷ turned 29 m0_27 did.Duty []
    ∷ posted m1_29
    ∷ posted m0_30
    ∷ fetched 31 m0_30
    ∷ turned 32 m0_30 (did.Handled (incarnation 0 1) 0) []
    ∷ fetched 33 m1_29
    ∷ turned 34 m1_29 did.Duty (notes.Down (incarnation 4 1) 0 ∷ [])
    ∷ []

-- the definitions give these journals
abbrev pub NestedEndIsComputed : Type 0
NestedEndIsComputed = IsComputed model tables lines (starts_alone ∷ starts1 ∷ []) merge
