-- The messages that duties and commands send. Those of priority 0 pass between the frame services
-- and layer services of controllers; frame messages, of priority 3, tell an actor what came of its
-- request (this project's own). A message gets its sender and its stamp when it is posted; until
-- then it carries its controller's number and 0.
use Rattle.std.specs.Prelude.{ℕ, ℤ, pos, Bool, List, [], ◌∷◌, Some}
use Rattle.std.specs.Ordering.{int_eq}
use Rattle.room_kinds.specs.declared.message.Msg.{Msg}
use Rattle.room_kinds.specs.declared.numbers.Incarnation.{Incarnation}
use Rattle.room_kinds.specs.declared.numbers.Endpoint.{Endpoint}
use Rattle.room_kinds.specs.declared.system.SysKind.{SysKind}
use Rattle.room_kinds.specs.Kinds.{number_of}
use Rattle.room_wiring.specs.declared.tables.Tables.{Tables}
use Rattle.actor_duties.specs.Words.{frame_of, reference_of, index_of, owner_of}

-- a message of priority 0 from this controller to that one
abbrev pub system : ℕ → ℕ → SysKind → Endpoint → Endpoint → List ℤ → Msg
system me receiver kind source target payload = record {
  from = record { 0 = me };
  to = record { 0 = receiver };
  prio = record { 0 = 0 };
  stamp = record { 0 = 0 };
  source = Some source;
  target = target;
  signal = number_of kind;
  payload = payload;
}

-- a reply goes back to the sender of the message
abbrev pub reply : ℕ → Msg → SysKind → Endpoint → Endpoint → List ℤ → Msg
reply me m kind source target payload = system me m.from.0 kind source target payload

-- a message to the owner of its target
abbrev pub to_owner : Tables → ℕ → SysKind → Endpoint → Endpoint → List ℤ → Msg
to_owner t me kind source target payload = system me (owner_of t target.slot.0) kind source target payload

-- the signals of `frame`
pub data FrameSignal : Type 0 where
  Created Destroyed Imported Ended Deported Refused Named Unnamed NameRefused : FrameSignal

-- their numbers
abbrev pub signal_number : FrameSignal → ℕ
signal_number Created = 0
signal_number Destroyed = 1
signal_number Imported = 2
signal_number Ended = 3
signal_number Deported = 4
signal_number Refused = 5
signal_number Named = 6
signal_number Unnamed = 7
signal_number NameRefused = 8

-- a frame message: it goes by way of the outbox to the controller itself
abbrev pub frame_message : ℕ → FrameSignal → Endpoint → Endpoint → List ℤ → Msg
frame_message me signal source target payload = record {
  from = record { 0 = me };
  to = record { 0 = me };
  prio = record { 0 = 3 };
  stamp = record { 0 = 0 };
  source = Some source;
  target = target;
  signal = signal_number signal;
  payload = payload;
}

-- a frame message on a slot to an actor: the reference and the index of the slot, and an id or a code
abbrev pub told_of : Tables → ℕ → FrameSignal → Endpoint → Endpoint → ℕ → ℤ → Msg
told_of t me signal source target slot last =
    frame_message me signal source target (pos (reference_of t slot) ∷ pos (index_of t slot) ∷ last ∷ [])

-- a code found when a command is applied: from the actor's `frame` to itself, with the index as the
-- action gave it
abbrev pub refused_at_once : ℕ → Incarnation → ℕ → ℤ → ℕ → Msg
refused_at_once me x reference index code =
    frame_message me Refused (frame_of x) (frame_of x) (pos reference ∷ index ∷ pos code ∷ [])

-- the same of a port
abbrev pub name_told : ℕ → FrameSignal → Incarnation → List ℤ → Msg
name_told me signal x payload = frame_message me signal (frame_of x) (frame_of x) payload

-- why a request was refused
pub data Code : Type 0 where
  Occupied NoSlot NotHere StaleId PortTaken Busy WrongClass NameTaken NotRegistered : Code

-- the numbers of the codes
abbrev pub code_number : Code → ℕ
code_number Occupied = 1
code_number NoSlot = 2
code_number NotHere = 3
code_number StaleId = 4
code_number PortTaken = 5
code_number Busy = 6
code_number WrongClass = 7
code_number NameTaken = 8
code_number NotRegistered = 9

-- a code as a payload
abbrev pub coded : Code → List ℤ
coded code = pos (code_number code) ∷ []

-- whether a number is this code
abbrev pub is_code : Code → ℤ → Bool
is_code code n = int_eq n (pos (code_number code))
