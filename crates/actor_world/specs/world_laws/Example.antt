-- A worked example: an actor defers two messages, gets one of them back, defers it again, and is destroyed.
use Rattle.std.specs.Prelude.{◌≡◌, ℕ, pos, ◌==◌, false, List, [], ◌∷◌, ◌++◌, map, Option, Some, None, if◌then◌else◌}
use Rattle.std.specs.List.{list_any}
use Rattle.room_kinds.specs.declared.message.Msg.{Msg}
use Rattle.room_kinds.specs.declared.command.Command.{Command}
use Rattle.room_kinds.specs.declared.command.Command.TheVariants as commands
use Rattle.room_kinds.specs.declared.command.FrameCommand.TheVariants as frame
use Rattle.room_kinds.specs.declared.structure.ReferenceKind.{ReferenceKind as Kind}
use Rattle.room_kinds.specs.declared.structure.ReferenceKind.TheVariants.{Fixed, Optional}
use Rattle.room_kinds.specs.declared.structure.PortKind.{PortKind}
use Rattle.room_kinds.specs.declared.structure.PortKind.TheVariants as ports
use Rattle.room_kinds.specs.declared.numbers.SlotId.{SlotId}
use Rattle.journal.specs.declared.entry.Entry.{Entry}
use Rattle.journal.specs.declared.entry.Entry.TheVariants as entry
use Rattle.room_wiring.specs.declared.tables.Tables.{Tables}
use Rattle.room_wiring.specs.declared.slot.Slot.{Slot}
use Rattle.room_wiring.specs.declared.slot.Partner.TheVariants.{Nobody}
use Rattle.room_wiring.specs.declared.names.PortNames.{PortNames}
use Rattle.actor_merge.specs.Parties.{State, Plant, fetch, turn, post}
use Rattle.actor_duties.specs.Words.{endpoint}
use Rattle.actor_world.specs.Behaviour.{Behaviour, Handled, Deferred}
use Rattle.actor_world.specs.Body.{Body}
use Rattle.actor_world.specs.Start.{plant_of, first_state}
use Rattle.actor_world.specs.Life.{IsModest}
use Rattle.actor_world.specs.world_laws.Whereabouts.{kept, state_after, done_with, is_defer, TellsDefers}

-- a slot of controller 0
abbrev pub slot : Kind → Option SlotId → Slot
slot kind parent = record { path = []; class = 0; kind = kind; parent = parent; owner = record { 0 = 0 }; reference = 0; index = 0 }

-- a port
abbrev pub port : PortKind → Option ℕ → PortNames
port kind protocol = record { name = []; kind = kind; conjugated = false; protocol = protocol; protocol_name = None; incoming = []; outgoing = [] }

-- an actor, and an optional actor in it
abbrev pub tables : Tables
tables = record {
  slots = slot Fixed None ∷ (slot Optional (Some (record { 0 = 0 })) ∷ []);
  controllers = [] ∷ [];
  classes = record { name = []; ports = port ports.Frame None ∷ (port ports.Internal (Some 0) ∷ []); references = []; states = []; attributes = [] } ∷ [];
  first_ports = 0 ∷ (2 ∷ []);
  ports = record { first = 0; count = 1 } ∷ (record { first = 1; count = 1 } ∷ (record { first = 2; count = 1 } ∷ (record { first = 3; count = 1 } ∷ [])));
  partners = Nobody ∷ (Nobody ∷ (Nobody ∷ (Nobody ∷ [])));
  told = (false ∷ []) ∷ ((false ∷ []) ∷ []);
}

-- what an actor does: signal 0 makes the optional actor, 1 destroys it, 2 is deferred, 3 recalls
abbrev pub acts : Msg → List Command
acts m =
    if m.target.port == 0 then []
    else if m.signal == 0 then commands.Frame (frame.Incarnate 0 (pos 0)) ∷ []
    else if m.signal == 1 then commands.Frame (frame.Destroy 0 (pos 0)) ∷ []
    else if m.signal == 2 then commands.Defer ∷ []
    else commands.Recall ∷ []

-- the behaviour of both
abbrev pub model : Behaviour ℕ
model = record {
  begin = λ x. record { machine = 0; notes = []; commands = [] };
  handle = λ x n m. record { machine = 0; result = if list_any is_defer (acts m) then Deferred else Handled; notes = []; commands = acts m };
  state = λ n. n;
}

-- a message of the environment to an actor's second port
abbrev pub line : (stamp to signal : ℕ) → Msg
line stamp to signal = record {
  from = record { 0 = 1 };
  to = record { 0 = 0 };
  prio = record { 0 = 3 };
  stamp = record { 0 = stamp };
  source = None;
  target = endpoint to 0 1 0;
  signal = signal;
  payload = [];
}

-- what the controller does: it fetches a message of the environment, takes a turn, or posts a message to
-- itself and fetches that
pub data Act : Type 0 where
  Comes : (m : Msg) → Act
  Turns : Act
  Posts : Act

-- the entry of an event
abbrev pub entries_of : {B : Type 0} → Option (State B × Entry) → List Entry
entries_of None = []
entries_of (Some r) = r.1 ∷ []

-- the fetch of what was posted
abbrev pub fetch_of : {B : Type 0} → Option (State B × Entry) → List Entry
fetch_of (Some (s, entry.Post stamp m)) = (fetch s m).1 ∷ []
fetch_of _ = []

-- the entries of an act
abbrev pub does : Plant (Body ℕ) → State (Body ℕ) → Act → List Entry
does plant s (Comes m) = (fetch s m).1 ∷ []
does plant s Turns = entries_of (turn plant 0 s)
does plant s Posts = entries_of (post 0 s) ++ fetch_of (post 0 s)

-- the state after some entries
abbrev pub states_after : Plant (Body ℕ) → State (Body ℕ) → List Entry → State (Body ℕ)
states_after plant s [] = s
states_after plant s (e ∷ es) = states_after plant (state_after plant 0 s e) es

-- the entries of some acts
abbrev pub replay : Plant (Body ℕ) → State (Body ℕ) → List Act → List Entry
replay plant s [] = []
replay plant s (a ∷ more) = let es = does plant s a in es ++ replay plant (states_after plant s es) more

-- senders and stamps
abbrev pub names : List Msg → List (ℕ × ℕ)
names ms = map (λ (m : Msg). (m.from.0, m.stamp.0)) ms

-- the plant, without lines, and how its controller starts
abbrev pub plant : Plant (Body ℕ)
plant = plant_of model tables []

abbrev pub first : State (Body ℕ)
first = first_state model tables 0

-- the state after some acts
abbrev pub after : List Act → State (Body ℕ)
after acts = states_after plant first (replay plant first acts)

-- where the fetched messages are after some acts
pub record Are (acts : List Act) (waiting kept_then done : List (ℕ × ℕ)) : Type 0 where
  pub pending : names ((after acts).pending 3) ≡ waiting
  pub deferred : names (kept tables (after acts).body) ≡ kept_then
  pub over : names (done_with plant tables 0 first (replay plant first acts)) ≡ done

-- the optional actor is made
abbrev pub made : List Act
made = Comes (line 1 0 0) ∷ Turns ∷ Posts ∷ Turns ∷ Posts ∷ Turns ∷ Posts ∷ Turns ∷ []

-- and then defers two messages
abbrev pub deferring : List Act
deferring = made ++ (Comes (line 13 1 2) ∷ Comes (line 14 1 2) ∷ Turns ∷ Turns ∷ [])

-- and gets the first one back
abbrev pub recalling : List Act
recalling = deferring ++ (Comes (line 15 1 3) ∷ Turns ∷ [])

-- and defers that again, and is destroyed
abbrev pub destroying : List Act
destroying = recalling ++ (Turns ∷ Comes (line 16 0 1) ∷ Turns ∷ Posts ∷ Turns ∷ [])

-- the laws' premises hold here, and each message is where it should be
pub record ExampleIsComputed : Type 0 where
  pub modest : IsModest model
  pub tells : TellsDefers model
  pub two_deferred : Are deferring [] ((1, 13) ∷ ((1, 14) ∷ [])) ((1, 1) ∷ ((0, 4) ∷ ((0, 7) ∷ ((0, 10) ∷ []))))
  pub one_recalled : Are recalling ((1, 13) ∷ []) ((1, 14) ∷ []) ((1, 1) ∷ ((0, 4) ∷ ((0, 7) ∷ ((0, 10) ∷ ((1, 15) ∷ [])))))
  pub both_lost : Are destroying [] [] ((1, 1) ∷ ((0, 4) ∷ ((0, 7) ∷ ((0, 10) ∷ ((1, 15) ∷ ((1, 16) ∷ ((0, 23) ∷ ((1, 14) ∷ ((1, 13) ∷ [])))))))))
