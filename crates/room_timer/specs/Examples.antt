-- Worked examples: what lines come to over the journals of a small model.
-- The model has one controller, and three actors: the top one (slot 0), a timing service (1) and its user (2), whose
-- service access point `tm` (port 1) is joined to the service's `timer` (port 1).
use Rattle.std.specs.Prelude.{ℕ, ℤ, pos, Bool, true, false, List, [], ◌∷◌, ◌++◌, Option, Some, None, codes}
use Rattle.room_kinds.specs.declared.message.Msg.{Msg}
use Rattle.room_kinds.specs.declared.note.Note.{Note}
use Rattle.room_kinds.specs.declared.note.Note.TheVariants as notes
use Rattle.room_kinds.specs.declared.number_type.NumberType.{NumberType}
use Rattle.room_kinds.specs.declared.number_type.NumberType.TheVariants.{Int32}
use Rattle.room_kinds.specs.declared.structure.PortKind.{PortKind}
use Rattle.room_kinds.specs.declared.structure.PortKind.TheVariants as ports
use Rattle.room_kinds.specs.declared.structure.ReferenceKind.TheVariants.{Fixed}
use Rattle.room_kinds.specs.declared.numbers.SlotId.{SlotId}
use Rattle.journal.specs.declared.entry.Did.{Did}
use Rattle.journal.specs.declared.entry.Did.TheVariants as did
use Rattle.journal.specs.declared.entry.Entry.{Entry}
use Rattle.journal.specs.declared.entry.Entry.TheVariants as entry
use Rattle.journal.specs.declared.entry.Journals.{Journals}
use Rattle.room_wiring.specs.declared.names.ClassNames.{ClassNames}
use Rattle.room_wiring.specs.declared.names.PortNames.{PortNames}
use Rattle.room_wiring.specs.declared.names.SignalNames.{SignalNames}
use Rattle.room_wiring.specs.declared.slot.Slot.{Slot}
use Rattle.room_wiring.specs.declared.slot.Partner.TheVariants.{Nobody, End}
use Rattle.room_wiring.specs.declared.tables.PlaceSpan.{PlaceSpan}
use Rattle.room_wiring.specs.declared.tables.Tables.{Tables}
use Rattle.inject_reader.specs.declared.inject_lines.accepted.Line.{Line}
use Rattle.inject_reader.specs.declared.inject_lines.accepted.What.TheVariants as whats
use Rattle.actor_duties.specs.Words.{incarnation, endpoint}
use Rattle.room_timer.specs.Expansion.{settle, IsExpansion}

-- ---- the model

-- a signal whose messages carry numbers of these types
abbrev pub signal : List ℕ → List NumberType → SignalNames
signal name numbers = record { name = name; numbers = numbers }

-- the port `frame` that each class has
abbrev pub frame : PortNames
frame = record { name = codes "frame"; kind = ports.Frame; conjugated = false; protocol = None; protocol_name = None; incoming = []; outgoing = [] }

-- a port of the protocol `PTimer`
abbrev pub timing_port : List ℕ → PortKind → Bool → PortNames
timing_port name kind conjugated = record {
  name = name;
  kind = kind;
  conjugated = conjugated;
  protocol = Some 0;
  protocol_name = Some (codes "PTimer");
  incoming = signal (codes "startTimer") (Int32 ∷ []) ∷ signal (codes "killTimer") [] ∷ [];
  outgoing = signal (codes "timeout") [] ∷ [];
}

-- a class with these ports
abbrev pub class : List ℕ → List PortNames → ClassNames
class name ports = record { name = name; ports = ports; references = []; states = []; attributes = [] }

-- a fixed slot of a class, in this container
abbrev pub slot : ℕ → Option SlotId → ℕ → Slot
slot class container reference =
    record { path = []; class = class; kind = Fixed; parent = container; owner = record { 0 = 0 }; reference = reference; index = 0 }

-- the one place of a port, in this row
abbrev pub place : ℕ → PlaceSpan
place row = record { first = row; count = 1 }

-- the wiring of the model
abbrev pub tables : Tables
tables = record {
  slots = slot 2 None 0 ∷ slot 0 (Some (record { 0 = 0 })) 0 ∷ slot 1 (Some (record { 0 = 0 })) 1 ∷ [];
  controllers = codes "default" ∷ [];
  classes =
      class (codes "TimingService") (frame ∷ timing_port (codes "timer") ports.Spp false ∷ [])
      ∷ class (codes "A") (frame ∷ timing_port (codes "tm") ports.Sap true ∷ [])
      ∷ class (codes "T") (frame ∷ [])
      ∷ [];
  first_ports = 0 ∷ 1 ∷ 3 ∷ [];
  ports = place 0 ∷ place 1 ∷ place 2 ∷ place 3 ∷ place 4 ∷ [];
  partners = Nobody ∷ Nobody ∷ End (record { 0 = 2 }) 1 0 ∷ Nobody ∷ End (record { 0 = 1 }) 1 0 ∷ [];
  told = (false ∷ []) ∷ (false ∷ []) ∷ (false ∷ []) ∷ [];
}

-- ---- its journals

-- what the user sends to the service at a time
abbrev pub request : ℕ → ℕ → List ℤ → Msg
request stamp signal numbers = record {
  from = record { 0 = 0 };
  to = record { 0 = 0 };
  prio = record { 0 = 3 };
  stamp = record { 0 = stamp };
  source = Some (endpoint 2 1 1 0);
  target = endpoint 1 1 1 0;
  signal = signal;
  payload = numbers;
}

-- `startTimer` with a delay
abbrev pub start_timer : ℕ → ℤ → Msg
start_timer stamp delay = request stamp 0 (delay ∷ [])

-- `killTimer`
abbrev pub kill_timer : ℕ → Msg
kill_timer stamp = request stamp 1 []

-- the timeout that the environment posts at a time
abbrev pub timeout : ℕ → Msg
timeout stamp = record {
  from = record { 0 = 1 };
  to = record { 0 = 0 };
  prio = record { 0 = 3 };
  stamp = record { 0 = stamp };
  source = None;
  target = endpoint 2 0 1 0;
  signal = 2;
  payload = [];
}

-- a post, a fetch, and a turn of a message
abbrev pub posted : Msg → Entry
posted m = entry.Post m.stamp m

abbrev pub fetched : ℕ → Msg → Entry
fetched stamp m = entry.Fetch (record { 0 = stamp }) m

abbrev pub turned : ℕ → Msg → Did → List Note → Entry
turned stamp m what ns = entry.Turn (record { 0 = stamp }) m.from m.stamp what ns

-- what the service and its user do with their messages
abbrev pub unhandled : Did
unhandled = did.Unhandled (incarnation 1 1) 65535

abbrev pub handled : ℕ → Did
handled state = did.Handled (incarnation 2 1) state

-- the entries with which the controller's journal begins
abbrev pub starts : List Entry
starts =
    entry.Start (incarnation 0 1) 65535 [] ∷ entry.Start (incarnation 1 1) 65535 [] ∷ entry.Start (incarnation 2 1) 0 [] ∷ []

-- journals with these entries of the controller and of the environment
abbrev pub journals : List Entry → List Entry → Bool → Journals
journals controller environment done =
    record { controllers = (starts ++ controller) ∷ []; environment = environment; left = []; unposted = []; done = done }

-- the user arms its timer at the start, and the service takes the message
abbrev pub arming : List Entry
arming = posted (start_timer 1 (pos 5)) ∷ fetched 2 (start_timer 1 (pos 5)) ∷ turned 3 (start_timer 1 (pos 5)) unhandled [] ∷ []

-- `advance` under a number, by so much
abbrev pub advance : ℕ → ℕ → Line
advance number time = record { number = number; what = whats.Advance time }

-- the line of a timeout under a number
abbrev pub timeout_under : ℕ → Line
timeout_under number = record { number = number; what = whats.Message (endpoint 2 0 1 0) 2 [] (record { 0 = 3 }) }

-- ---- the examples

-- the user hears the timeout that the environment posts at 4
abbrev pub heard : Journals
heard =
    journals (arming ++ fetched 5 (timeout 4) ∷ turned 6 (timeout 4) (handled 1) [] ∷ []) (posted (timeout 4) ∷ []) true

-- `advance 4` and `advance 3`: the timer is due at 5, in the second of them
abbrev pub TimerExpires : Type 0
TimerExpires =
    IsExpansion tables (advance 1 4 ∷ advance 2 3 ∷ []) heard
    (settle 1 ∷ settle 2 ∷ timeout_under 2 ∷ settle 2 ∷ []) []

-- `advance 4` alone: the timer isn't yet due
abbrev pub TimerIsNotYetDue : Type 0
TimerIsNotYetDue = IsExpansion tables (advance 1 4 ∷ []) (journals arming [] true) (settle 1 ∷ []) []

-- the user that hears the first timeout arms its timer again
abbrev pub heard_twice : Journals
heard_twice =
    journals (
    arming
    ++ fetched 5 (timeout 4) ∷ turned 6 (timeout 4) (handled 0) [] ∷ posted (start_timer 7 (pos 2))
    ∷ fetched 8 (start_timer 7 (pos 2)) ∷ turned 9 (start_timer 7 (pos 2)) unhandled []
    ∷ fetched 11 (timeout 10) ∷ turned 12 (timeout 10) (handled 1) [] ∷ []
    ) (posted (timeout 4) ∷ posted (timeout 10) ∷ []) true

-- `advance 10`: the timer is due at 5, and armed again at 7, within the same `advance`
abbrev pub ArmedInBetween : Type 0
ArmedInBetween =
    IsExpansion tables (advance 1 10 ∷ []) heard_twice
    (settle 1 ∷ timeout_under 1 ∷ settle 1 ∷ timeout_under 1 ∷ settle 1 ∷ []) []

-- the run is stopped by the fuel before the service takes its message
abbrev pub stopped : Journals
stopped = journals (posted (start_timer 1 (pos 5)) ∷ []) [] false

-- `advance 10` and `settle`: the moment that isn't reached is the last of the expansion, and both lines are left
abbrev pub MomentNotReached : Type 0
MomentNotReached =
    IsExpansion tables (advance 1 10 ∷ settle 2 ∷ []) stopped (settle 1 ∷ timeout_under 1 ∷ [])
    (advance 1 10 ∷ settle 2 ∷ [])

-- the user disarms its timer
abbrev pub disarming : Journals
disarming = journals (posted (start_timer 1 (pos 5)) ∷ posted (kill_timer 2) ∷ []) [] true

-- `advance 10`: no timer is due
abbrev pub Disarmed : Type 0
Disarmed = IsExpansion tables (advance 1 10 ∷ []) disarming (settle 1 ∷ []) []

-- the user goes down
abbrev pub ending : Journals
ending =
    journals (arming ++ entry.Turn (record { 0 = 4 }) (record { 0 = 0 }) (record { 0 = 2 }) did.Duty (notes.Down (incarnation 2 1) 0 ∷ []) ∷ []) [] true

-- `advance 10`: with the user its timer ended
abbrev pub EndedWithItsActor : Type 0
EndedWithItsActor = IsExpansion tables (advance 1 10 ∷ []) ending (settle 1 ∷ []) []
