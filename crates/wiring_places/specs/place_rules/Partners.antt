-- What each place is joined to.
use Rattle.std.specs.Prelude.{ℕ, zero, suc, ◌+◌, ◌/◌, ◌==◌, ◌&&◌, ◌||◌, not, Bool, true, false, List, [], ◌∷◌, ◌++◌, Option, Some, None, length, slice_get, slice_index, if◌then◌else◌}
use Rattle.room_kinds.specs.declared.structure.PortKind.{PortKind}
use Rattle.room_kinds.specs.declared.structure.PortKind.TheVariants.{Frame, Relay as RelayPort, End as EndPort, Internal, Sap, Spp}
use Rattle.room_wiring.specs.declared.slot.Slot.{Slot}
use Rattle.room_wiring.specs.declared.slot.Partner.{Partner}
use Rattle.room_wiring.specs.declared.slot.Partner.TheVariants.{Nobody, End as EndPartner, Socket as SocketPartner}
use Rattle.wiring_plan.specs.declared.structure_plan.plan.PortPlan.{PortPlan}
use Rattle.wiring_plan.specs.declared.structure_plan.plan.StructurePlan.{StructurePlan}
use Rattle.wiring_places.specs.declared.place_rules.place.Place.{Place}
use Rattle.wiring_places.specs.declared.place_rules.place.Role.{Role}
use Rattle.wiring_places.specs.declared.place_rules.place.Role.TheVariants.{Relay, End, Socket}
use Rattle.room_kinds.specs.Structure.{is_imported}
use Rattle.wiring_places.specs.place_rules.Parts.{class_plan}

-- the role of a port's places
abbrev pub role_of_kind : PortKind → Role
role_of_kind Frame = End
role_of_kind RelayPort = Relay
role_of_kind EndPort = End
role_of_kind Internal = End
role_of_kind Sap = End
role_of_kind Spp = End

abbrev pub role_of : Bool → PortKind → Role
role_of imported kind = if imported then Socket else role_of_kind kind

-- n places of a port, the first of them k
unfoldable pub places_of_port : ℕ → ℕ → Role → ℕ → ℕ → List Place
places_of_port s p role k zero = []
places_of_port s p role k (suc n) = record { slot = s; port = p; place = k; role = role } ∷ places_of_port s p role (k + 1) n

-- the places of a slot's ports, whose counts stand in a list from `row` on; the first port listed has the number p
unfoldable pub places_of_ports : Bool → ℕ → List ℕ → ℕ → ℕ → List PortPlan → List Place
places_of_ports imported s counts row p [] = []
places_of_ports imported s counts row p (port ∷ ports) = places_of_port s p (role_of imported port.kind) 0 (slice_index counts (row + p)) ++ places_of_ports imported s counts row (p + 1) ports

-- the places of slots' ports, slot after slot; the first slot listed has the number s, and the counts of its ports stand from `row` on
unfoldable pub places_of_slots : StructurePlan → List ℕ → ℕ → ℕ → List Slot → List Place
places_of_slots plan counts s row [] = []
places_of_slots plan counts s row (x ∷ xs) = places_of_ports (is_imported x.kind) s counts row 0 (class_plan plan x.class).ports ++ places_of_slots plan counts (s + 1) (row + length (class_plan plan x.class).ports) xs

-- the row of all places, the ports having these counts
abbrev pub all_places : StructurePlan → List Slot → List ℕ → List Place
all_places plan slots counts = places_of_slots plan counts 0 0 slots

abbrev pub is_relay_role : Role → Bool
is_relay_role Relay = true
is_relay_role End = false
is_relay_role Socket = false

abbrev pub is_end_role : Role → Bool
is_end_role Relay = false
is_end_role End = true
is_end_role Socket = false

abbrev pub is_socket_role : Role → Bool
is_socket_role Relay = false
is_socket_role End = false
is_socket_role Socket = true

-- what lies across the faces of places, the first of which has this outer face: at a relay place the other face, at others the face itself
unfoldable pub across_from : ℕ → List Place → List ℕ
across_from face [] = []
across_from face (x ∷ xs) = (if is_relay_role x.role then face + 1 else face) ∷ (if is_relay_role x.role then face else face + 1) ∷ across_from (face + 2) xs

abbrev pub across_places : List Place → List ℕ
across_places places = across_from 0 places

-- a place as the end of a chain; a chain that ends at a relay place joins nobody
abbrev pub partner_of_role : Role → Place → Partner
partner_of_role Relay x = Nobody
partner_of_role End x = EndPartner (record { 0 = x.slot }) x.port x.place
partner_of_role Socket x = SocketPartner (record { 0 = x.slot }) x.port x.place

abbrev pub partner_of : Option Place → Partner
partner_of None = Nobody
partner_of (Some x) = partner_of_role x.role x

-- what a place with this outer face is joined to: the place at the far end of the chain from there, if that is another one; a relay place counts as joined to nobody
abbrev pub partner_at_end : List Place → List ℕ → ℕ → Place → Partner
partner_at_end places far face x = if is_relay_role x.role then Nobody else (if slice_index far face == face then Nobody else partner_of (slice_get places (slice_index far face / 2)))

-- what the places are joined to, the first of which has this outer face
unfoldable pub partners_from : List Place → List ℕ → ℕ → List Place → List Partner
partners_from places far face [] = []
partners_from places far face (x ∷ xs) = partner_at_end places far face x ∷ partners_from places far (face + 2) xs

abbrev pub partners : List Place → List ℕ → List Partner
partners places far = partners_from places far 0 places

-- the owner of a slot
abbrev pub owner_of : Option Slot → ℕ
owner_of None = 0
owner_of (Some x) = x.owner.0

-- whether a place that is joined to this is a socket joined to a socket
abbrev pub is_socket_pair : Place → Partner → Bool
is_socket_pair x Nobody = false
is_socket_pair x (EndPartner s p k) = false
is_socket_pair x (SocketPartner s p k) = is_socket_role x.role

-- whether it is an end place joined to a socket of another owner
abbrev pub is_socket_away : List Slot → Place → Partner → Bool
is_socket_away slots x Nobody = false
is_socket_away slots x (EndPartner s p k) = false
is_socket_away slots x (SocketPartner s p k) = is_end_role x.role && not (owner_of (slice_get slots x.slot) == owner_of (slice_get slots s.0))

-- whether a test holds at one of the places and what it is joined to
abbrev pub any_joined : (Place → Partner → Bool) → List Place → List Partner → Bool
any_joined test [] ps = false
any_joined test (x ∷ xs) [] = false
any_joined test (x ∷ xs) (p ∷ ps) = test x p || any_joined test xs ps

-- some two sockets are joined to each other
abbrev pub has_socket_pair : List Place → List Partner → Bool
has_socket_pair places partners = any_joined is_socket_pair places partners

-- some end place is joined to a socket of another owner
abbrev pub has_socket_away : List Slot → List Place → List Partner → Bool
has_socket_away slots places partners = any_joined (is_socket_away slots) places partners

-- whether a place of slot s that is joined to this lets the slot's owner tell controller d: an end place joined to an end place of a slot that d owns, or to a socket
abbrev pub lets_tell : List Slot → ℕ → ℕ → Place → Partner → Bool
lets_tell slots s d x Nobody = false
lets_tell slots s d x (EndPartner t p k) = (x.slot == s) && is_end_role x.role && (owner_of (slice_get slots t.0) == d)
lets_tell slots s d x (SocketPartner t p k) = (x.slot == s) && is_end_role x.role

-- whether the owner of slot s tells controller d, another one, of the actors in the slot
abbrev pub is_told : List Slot → List Place → List Partner → ℕ → ℕ → Bool
is_told slots places partners s d = not (owner_of (slice_get slots s) == d) && any_joined (lets_tell slots s d) places partners
