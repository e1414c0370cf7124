-- Where the timing service of a model is, and where its timeouts come in.
-- A model writes the timing service itself: a protocol class `PTimer`, with `startTimer`, which carries a delay of
-- 32 bits, and `killTimer` in, and `timeout` out; and an actor class `TimingService` with a service provision point
-- `timer` of that protocol. All other classes are ordinary.
use Rattle.std.specs.Prelude.{ℕ, Bool, true, false, ◌&&◌, ◌==◌, nat_eq, nat_lt, List, [], ◌∷◌, length, codes}
use Rattle.std.specs.Option.{option_map_or}
use lib.Pointwise.{pointwise}
use Rattle.room_kinds.specs.declared.number_type.NumberType.{NumberType}
use Rattle.room_kinds.specs.declared.number_type.NumberType.TheVariants as types
use Rattle.room_kinds.specs.declared.numbers.Endpoint.{Endpoint}
use Rattle.room_kinds.specs.declared.structure.PortKind.{PortKind}
use Rattle.room_kinds.specs.declared.structure.PortKind.TheVariants as ports
use Rattle.room_wiring.specs.declared.names.ClassNames.{ClassNames}
use Rattle.room_wiring.specs.declared.names.PortNames.{PortNames}
use Rattle.room_wiring.specs.declared.names.SignalNames.{SignalNames}
use Rattle.room_wiring.specs.declared.slot.Slot.{Slot}
use Rattle.room_wiring.specs.declared.tables.Tables.{Tables}
use Rattle.room_wiring.specs.Slots.{slot_at, class_of, port_at}
use Rattle.room_wiring.specs.Places.{place_count}
use Rattle.inject_reader.specs.Fitting.{has_end_places}
use Rattle.inject_reader.specs.Meaning.{is_own}
use Rattle.actor_world.specs.Start.{lives_from_start}

-- whether a name is this one
abbrev pub is_named : List ℕ → List ℕ → Bool
is_named name expected = pointwise nat_eq name expected

-- whether a number has 32 bits and a sign
abbrev pub is_int32 : NumberType → Bool
is_int32 types.Int8 = false
is_int32 types.Int16 = false
is_int32 types.Int32 = true
is_int32 types.Uint8 = false
is_int32 types.Uint16 = false
is_int32 types.Uint32 = false
is_int32 types.Boolean = false
is_int32 types.Plain = false

-- whether a kind of port is a service provision point
abbrev pub is_spp : PortKind → Bool
is_spp ports.Frame = false
is_spp ports.Relay = false
is_spp ports.End = false
is_spp ports.Internal = false
is_spp ports.Sap = false
is_spp ports.Spp = true

-- whether a message carries one number, of 32 bits
abbrev pub carries_int32 : List NumberType → Bool
carries_int32 [] = false
carries_int32 (n ∷ []) = is_int32 n
carries_int32 (n ∷ m ∷ ns) = false

-- whether these are the messages to a timing service
abbrev pub are_requests : List SignalNames → Bool
are_requests [] = false
are_requests (start ∷ []) = false
are_requests (start ∷ kill ∷ []) =
    is_named start.name (codes "startTimer") && carries_int32 start.numbers
    && is_named kill.name (codes "killTimer") && (length kill.numbers == 0)
are_requests (start ∷ kill ∷ more ∷ rest) = false

-- whether this is the one message that comes from it
abbrev pub are_answers : List SignalNames → Bool
are_answers [] = false
are_answers (timeout ∷ []) = is_named timeout.name (codes "timeout") && (length timeout.numbers == 0)
are_answers (timeout ∷ more ∷ rest) = false

-- whether a port has the protocol of timing services
abbrev pub speaks_of_time : PortNames → Bool
speaks_of_time x =
    option_map_or (λ (n : List ℕ). is_named n (codes "PTimer")) x.protocol_name false
    && are_requests x.incoming && are_answers x.outgoing

-- whether a port is the `timer` of a timing service
abbrev pub is_timer : PortNames → Bool
is_timer x = is_spp x.kind && is_named x.name (codes "timer") && speaks_of_time x

-- whether an endpoint is at the `timer` of a timing service: of an actor that lives from the start
unfoldable pub is_timing : Tables → Endpoint → Bool
is_timing t e =
    option_map_or is_timer (port_at t e.slot.0 e.port) false
    && option_map_or (λ (c : ClassNames). is_named c.name (codes "TimingService")) (class_of t e.slot.0) false
    && lives_from_start t e.slot.0

-- whether timeouts come in at a port: it has end places, and the other side of the protocol
abbrev pub is_timed : PortNames → Bool
is_timed x = has_end_places x.kind && x.conjugated && speaks_of_time x

-- whether timeouts come in at an endpoint: a place of such a port of a slot that isn't imported
unfoldable pub hears_timeout : Tables → Endpoint → Bool
hears_timeout t e =
    option_map_or (λ (x : Slot). is_own x.kind) (slot_at t e.slot.0) false
    && option_map_or is_timed (port_at t e.slot.0 e.port) false
    && nat_lt e.place (place_count t e.slot.0 e.port)

-- the numbers of its signals at a port of the protocol, and the priority at which timeouts come
abbrev pub start_timer : ℕ
start_timer = 0

abbrev pub kill_timer : ℕ
kill_timer = 1

abbrev pub timeout : ℕ
timeout = 2

abbrev pub general : ℕ
general = 3
