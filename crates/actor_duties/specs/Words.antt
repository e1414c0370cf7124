-- Words on numbers, endpoints and wirings that the rows of the tables share.
use Rattle.std.specs.Prelude.{ℕ, ℤ, pos, negsuc, ◌+◌, ◌*◌, ◌/◌, ◌%◌, ◌==◌, ◌&&◌, ◌||◌, nat_lt, Bool, true, false, List, length, slice_get, position, Option, Some, None, option_and_then, if◌then◌else◌}
use Rattle.std.specs.Option.{option_map_or}
use Rattle.std.specs.List.{range_with_len}
use Rattle.room_kinds.specs.declared.numbers.Incarnation.{Incarnation}
use Rattle.room_kinds.specs.declared.numbers.Endpoint.{Endpoint}
use Rattle.room_wiring.specs.declared.tables.Tables.{Tables}
use Rattle.room_wiring.specs.declared.slot.Slot.{Slot}
use Rattle.room_kinds.specs.declared.structure.ReferenceKind.{ReferenceKind as Kind}
use Rattle.room_kinds.specs.declared.structure.ReferenceKind.TheVariants as kinds
use Rattle.room_wiring.specs.declared.slot.Partner.{Partner}
use Rattle.room_wiring.specs.declared.slot.Partner.TheVariants as partners
use Rattle.room_wiring.specs.declared.names.ClassNames.{ClassNames}
use Rattle.room_wiring.specs.declared.names.PortNames.{PortNames}
use Rattle.room_kinds.specs.declared.structure.PortKind.{PortKind}
use Rattle.room_kinds.specs.declared.structure.PortKind.TheVariants as ports
use Rattle.room_wiring.specs.Slots.{slot_at, class_of}
use Rattle.room_wiring.specs.Places.{port_count, place_count, partner_at}

-- a function with another value at one number
unfoldable pub updated : {A : Type 0} → (ℕ → A) → ℕ → A → ℕ → A
updated f at value n = if n == at then value else f n

-- an actor that stands, or stood, in a slot
abbrev pub incarnation : ℕ → ℕ → Incarnation
incarnation slot generation = record { slot = record { 0 = slot }; generation = record { 0 = generation } }

-- a place of a port of what stands in a slot in a generation; generation 0 is whoever stands there
abbrev pub endpoint : ℕ → ℕ → ℕ → ℕ → Endpoint
endpoint slot generation port place = record { slot = record { 0 = slot }; generation = record { 0 = generation }; port = port; place = place }

-- place 0 of the port `frame`, where the frame service answers
abbrev pub frame_at : ℕ → ℕ → Endpoint
frame_at slot generation = endpoint slot generation 0 0

-- the `frame` of an incarnation
abbrev pub frame_of : Incarnation → Endpoint
frame_of x = frame_at x.slot.0 x.generation.0

-- the incarnation of an endpoint
abbrev pub whose : Endpoint → Incarnation
whose e = record { slot = e.slot; generation = e.generation }

-- whether an endpoint is place 0 of `frame`
abbrev pub is_frame : Endpoint → Bool
is_frame e = (e.port == 0) && (e.place == 0)

-- whether two incarnations are one
abbrev pub is_incarnation : Incarnation → Incarnation → Bool
is_incarnation x y = (x.slot.0 == y.slot.0) && (x.generation.0 == y.generation.0)

-- whether two endpoints are one
abbrev pub is_endpoint : Endpoint → Endpoint → Bool
is_endpoint a b = is_incarnation (whose a) (whose b) && (a.port == b.port) && (a.place == b.place)

-- the number of an incarnation, as actions see it
abbrev pub id_of : Incarnation → ℤ
id_of x = pos (x.slot.0 * 1048576 + x.generation.0)

-- the incarnation that a number stands for; a negative number stands for none
abbrev pub of_id : ℤ → Option Incarnation
of_id (pos n) = Some (incarnation (n / 1048576) (n % 1048576))
of_id (negsuc n) = None

-- the numbers of all slots
abbrev pub slots_of : Tables → List ℕ
slots_of t = range_with_len 0 (length t.slots)

-- the controller that runs the actors of a slot
unfoldable pub owner_of : Tables → ℕ → ℕ
owner_of t s = option_map_or (λ (x : Slot). x.owner.0) (slot_at t s) 0

-- whether a slot is there and run by this controller
unfoldable pub is_own : Tables → ℕ → ℕ → Bool
is_own t me s = option_map_or (λ (x : Slot). x.owner.0 == me) (slot_at t s) false

-- whether a kind is fixed
abbrev pub is_fixed_kind : Kind → Bool
is_fixed_kind kinds.Fixed = true
is_fixed_kind kinds.Optional = false
is_fixed_kind kinds.Imported = false

-- whether a kind is optional
abbrev pub is_optional_kind : Kind → Bool
is_optional_kind kinds.Fixed = false
is_optional_kind kinds.Optional = true
is_optional_kind kinds.Imported = false

-- whether a kind is imported
abbrev pub is_imported_kind : Kind → Bool
is_imported_kind kinds.Fixed = false
is_imported_kind kinds.Optional = false
is_imported_kind kinds.Imported = true

-- whether a slot lives exactly where its container does
unfoldable pub is_fixed : Tables → ℕ → Bool
is_fixed t s = option_map_or (λ (x : Slot). is_fixed_kind x.kind) (slot_at t s) false

-- whether actors of a slot come and go
unfoldable pub is_optional : Tables → ℕ → Bool
is_optional t s = option_map_or (λ (x : Slot). is_optional_kind x.kind) (slot_at t s) false

-- whether an actor of another slot is lent to a slot
unfoldable pub is_imported : Tables → ℕ → Bool
is_imported t s = option_map_or (λ (x : Slot). is_imported_kind x.kind) (slot_at t s) false

-- whether an actor of a slot may be lent: it is fixed or optional
abbrev pub is_home : Tables → ℕ → Bool
is_home t s = is_fixed t s || is_optional t s

-- the class of a slot, as a number
abbrev pub class_number : Tables → ℕ → Option ℕ
class_number t s = option_map_or (λ (x : Slot). Some x.class) (slot_at t s) None

-- the number of a container
abbrev pub container_number : Slot → Option ℕ
container_number x = option_map_or (λ c. Some c.0) x.parent None

-- the container of a slot
unfoldable pub container_of : Tables → ℕ → Option ℕ
container_of t s = option_and_then container_number (slot_at t s)

-- whether a slot's container is this one
abbrev pub is_part_of : Tables → ℕ → ℕ → Bool
is_part_of t s c = option_map_or (λ p. p == c) (container_of t s) false

-- the number of a slot's reference in its container's class
unfoldable pub reference_of : Tables → ℕ → ℕ
reference_of t s = option_map_or (λ (x : Slot). x.reference) (slot_at t s) 0

-- the index of a slot at its reference
unfoldable pub index_of : Tables → ℕ → ℕ
index_of t s = option_map_or (λ (x : Slot). x.index) (slot_at t s) 0

-- whether a slot is the one with this container, reference and index
abbrev pub is_slot_for : ℕ → ℕ → ℕ → Slot → Bool
is_slot_for c reference index x =
    option_map_or (λ p. p == c) (container_number x) false && (x.reference == reference) && (x.index == index)

-- the slot of a reference of a container at an index, where the index is in range
unfoldable pub part_at : Tables → ℕ → ℕ → ℤ → Option ℕ
part_at t c reference (pos index) = position (is_slot_for c reference index) t.slots
part_at t c reference (negsuc index) = None

-- a port of the class of a slot
unfoldable pub port_at : Tables → ℕ → ℕ → Option PortNames
port_at t s p = option_and_then (λ (c : ClassNames). slice_get c.ports p) (class_of t s)

-- whether a kind of port is a service access point
abbrev pub is_sap_kind : PortKind → Bool
is_sap_kind ports.Sap = true
is_sap_kind ports.Spp = false
is_sap_kind ports.Frame = false
is_sap_kind ports.Relay = false
is_sap_kind ports.End = false
is_sap_kind ports.Internal = false

-- whether a kind of port is a service provision point
abbrev pub is_spp_kind : PortKind → Bool
is_spp_kind ports.Spp = true
is_spp_kind ports.Sap = false
is_spp_kind ports.Frame = false
is_spp_kind ports.Relay = false
is_spp_kind ports.End = false
is_spp_kind ports.Internal = false

-- whether a port of a slot is a service access point, the user's side of a service
unfoldable pub is_sap : Tables → ℕ → ℕ → Bool
is_sap t s p = option_map_or (λ (x : PortNames). is_sap_kind x.kind) (port_at t s p) false

-- whether a port of a slot is a service provision point, the provider's side of a service
unfoldable pub is_spp : Tables → ℕ → ℕ → Bool
is_spp t s p = option_map_or (λ (x : PortNames). is_spp_kind x.kind) (port_at t s p) false

-- the protocol of a port of a slot
unfoldable pub protocol_of : Tables → ℕ → ℕ → ℕ
protocol_of t s p = option_map_or (λ (x : PortNames). option_map_or (λ n. n) x.protocol 0) (port_at t s p) 0

-- whether a partner is an end place
abbrev pub is_end : Partner → Bool
is_end partners.Nobody = false
is_end (partners.End slot port place) = true
is_end (partners.Socket slot port place) = false

-- whether there is a partner
abbrev pub is_joined : Partner → Bool
is_joined partners.Nobody = false
is_joined (partners.End slot port place) = true
is_joined (partners.Socket slot port place) = true

-- what a place is joined to; a place out of range is joined to nobody
unfoldable pub joined_at : Tables → ℕ → ℕ → ℕ → Partner
joined_at t s p k =
    if nat_lt s (length t.slots) && nat_lt p (port_count t s) && nat_lt k (place_count t s p) then partner_at t s p k else partners.Nobody

-- the numbers of the ports of a slot
abbrev pub ports_of : Tables → ℕ → List ℕ
ports_of t s = range_with_len 0 (port_count t s)

-- the numbers of the places of a port of a slot
abbrev pub places_of : Tables → ℕ → ℕ → List ℕ
places_of t s p = range_with_len 0 (place_count t s p)
