-- What a line asks for at a wiring: names are looked up, numbers are reduced to their types.
use Rattle.std.specs.Prelude.{ℕ, ℤ, ◌+◌, List, ◌&&◌, ◌==◌, nat_lt, nat_le, if◌then◌else◌, Bool, not, false, Option, Some, None, Result, Ok, Err, option_and_then, position, slice_get, length, map}
use Rattle.std.specs.List.{zip}
use Rattle.std.specs.Option.{option_map_or}
use Rattle.name_tables.specs.name_numbers.Names.{same}
use Rattle.room_kinds.specs.declared.number_type.NumberType.{NumberType}
use Rattle.room_kinds.specs.declared.structure.ReferenceKind.{ReferenceKind}
use Rattle.room_kinds.specs.Structure.{is_end, is_imported}
use Rattle.room_kinds.specs.declared.numbers.Endpoint.{Endpoint}
use Rattle.room_kinds.specs.Reduction.{reduced}
use Rattle.room_wiring.specs.declared.tables.Tables.{Tables}
use Rattle.room_wiring.specs.declared.slot.Slot.{Slot}
use Rattle.room_wiring.specs.declared.names.ClassNames.{ClassNames}
use Rattle.room_wiring.specs.declared.names.PortNames.{PortNames}
use Rattle.room_wiring.specs.declared.names.SignalNames.{SignalNames}
use Rattle.room_wiring.specs.Slots.{slot_at, class_of, slot_named}
use Rattle.room_wiring.specs.Places.{place_count}
use Rattle.inject_reader.specs.declared.inject_lines.accepted.Advances.{Advances}
use Rattle.inject_reader.specs.declared.inject_lines.accepted.Advances.TheVariants.{Taken, Refused}
use Rattle.inject_reader.specs.declared.inject_lines.accepted.What.{What}
use Rattle.inject_reader.specs.declared.inject_lines.accepted.What.TheVariants as whats
use Rattle.text_reading.specs.Numerals.{value_of}
use Rattle.inject_reader.specs.inject_lines.Forms.{MessageForm, LineForm, Settle, Advance, Message, form_in}

-- the number of a faulty line, and its code
abbrev pub Fault : Type 0
Fault = ℕ × ℕ

infixl 10 ◌>>=◌
abbrev pub ◌>>=◌ : {A B : Type 0} → Result A Fault → (A → Result B Fault) → Result B Fault
(Ok x) >>= f = f x
(Err e) >>= f = Err e

-- what there is, or else a code of this line
abbrev pub coded : {A : Type 0} → ℕ → ℕ → Option A → Result A Fault
coded line code (Some x) = Ok x
coded line code None = Err (line, code)

-- ---- code 2

-- a slot in which an actor stands that isn't imported there
abbrev pub is_own : ReferenceKind → Bool
is_own kind = not (is_imported kind)

-- this slot, unless it is an imported one
abbrev pub own_slot : Tables → ℕ → Option ℕ
own_slot t s = if option_map_or (λ (x : Slot). is_own x.kind) (slot_at t s) false then Some s else None

-- the slot with a path
unfoldable pub slot_meant : Tables → List ℕ → Option ℕ
slot_meant t path = option_and_then (own_slot t) (slot_named t path)

-- ---- code 3

-- this port with its number, if it is an end port that has the place
abbrev pub end_place : Tables → ℕ → ℕ → ℕ → PortNames → Option (ℕ × PortNames)
end_place t s place p x = if is_end x.kind && nat_lt place (place_count t s p) then Some (p, x) else None

-- a number of 16 bits
abbrev pub narrow : ℕ → Option ℕ
narrow n = if nat_lt n 65536 then Some n else None

-- the number of the first port of a class with this name
abbrev pub port_named : ClassNames → List ℕ → Option ℕ
port_named c name = option_and_then narrow (position (λ (x : PortNames). same x.name name) c.ports)

-- the port of a class with this name, if it has the place at the slot
abbrev pub port_in_class : Tables → ℕ → List ℕ → ℕ → ClassNames → Option (ℕ × PortNames)
port_in_class t s name place c = option_and_then (λ p. option_and_then (end_place t s place p) (slice_get c.ports p)) (port_named c name)

-- the port of a slot with this name and place
unfoldable pub port_meant : Tables → ℕ → List ℕ → ℕ → Option (ℕ × PortNames)
port_meant t s name place = option_and_then (port_in_class t s name place) (class_of t s)

-- ---- code 4

-- the signals that come in at a port
abbrev pub coming : PortNames → List SignalNames
coming x = if x.conjugated then x.outgoing else x.incoming

-- the number of the first of them
abbrev pub first_coming : PortNames → ℕ
first_coming x = if x.conjugated then length x.incoming else 0

-- the signal at a place among those that come in, with its number
abbrev pub coming_at : PortNames → ℕ → Option (ℕ × SignalNames)
coming_at x i = option_and_then (λ (y : SignalNames). if nat_lt (first_coming x + i) 65536 then Some (first_coming x + i, y) else None) (slice_get (coming x) i)

-- the first signal with this name that comes in
unfoldable pub signal_meant : PortNames → List ℕ → Option (ℕ × SignalNames)
signal_meant x name = option_and_then (coming_at x) (position (λ (y : SignalNames). same y.name name) (coming x))

-- ---- code 5

-- each number, reduced to its type
abbrev pub reduced_all : List NumberType → List ℤ → List ℤ
reduced_all types numbers = map (λ p. reduced p.0 p.1) (zip types numbers)

-- one number for each type; no message has more than 64
unfoldable pub payload_meant : List NumberType → List ℤ → Option (List ℤ)
payload_meant types numbers = if (length numbers == length types) && nat_le (length numbers) 64 then Some (reduced_all types numbers) else None

-- ---- the whole line

-- a place of a port of whoever stands in a slot
abbrev pub whoever : ℕ → ℕ → ℕ → Endpoint
whoever s port place = record { slot = record { 0 = s }; generation = record { 0 = 0 }; port = port; place = place }

-- a message, or the lowest code of this line
unfoldable pub message_meant : Tables → ℕ → MessageForm → Result What Fault
message_meant t line m = do
  slot ← coded line 2 (slot_meant t m.target.path)
  port ← coded line 3 (port_meant t slot m.target.port (value_of m.target.place))
  signal ← coded line 4 (signal_meant port.1 m.signal)
  payload ← coded line 5 (payload_meant signal.1.numbers m.load.numbers)
  Ok (whats.Message (whoever slot port.0 (value_of m.target.place)) signal.0 payload (record { 0 = m.load.prio }))

-- ---- code 7

-- a time to move on by, where that is accepted
abbrev pub advance_meant : Advances → ℕ → ℕ → Result What Fault
advance_meant Taken line time = Ok (whats.Advance time)
advance_meant Refused line time = Err (line, 7)

abbrev pub form_meant : Advances → Tables → ℕ → LineForm → Result What Fault
form_meant advances t line Settle = Ok whats.Settle
form_meant advances t line (Advance time) = advance_meant advances line time
form_meant advances t line (Message m) = message_meant t line m

-- what a line asks for, or its number and its lowest code
unfoldable pub line_meant : Advances → Tables → ℕ → List ℕ → Result What Fault
line_meant advances t line text = coded line 1 (form_in text) >>= form_meant advances t line
