-- Which service access points are joined to which service provision points.
use Rattle.std.specs.Prelude.{ℕ, zero, suc, ◌+◌, ◌==◌, ◌&&◌, Bool, true, false, List, [], ◌∷◌, ◌++◌, Option, Some, None, length, slice_get, find, if◌then◌else◌, option_map}
use Rattle.room_kinds.specs.declared.structure.PortKind.{PortKind}
use Rattle.room_kinds.specs.declared.structure.PortKind.TheVariants.{Frame, Relay, End, Internal, Sap, Spp}
use Rattle.room_kinds.specs.declared.numbers.SlotId.{SlotId}
use Rattle.room_wiring.specs.declared.slot.Slot.{Slot}
use Rattle.wiring_plan.specs.declared.structure_plan.plan.PortPlan.{PortPlan}
use Rattle.wiring_plan.specs.declared.structure_plan.plan.ReferencePlan.{ReferencePlan}
use Rattle.wiring_plan.specs.declared.structure_plan.plan.LayerPlan.{LayerPlan}
use Rattle.wiring_plan.specs.declared.structure_plan.plan.ClassPlan.{ClassPlan}
use Rattle.wiring_plan.specs.declared.structure_plan.plan.StructurePlan.{StructurePlan}
use Rattle.wiring_places.specs.declared.place_rules.place.LayerJoin.{LayerJoin}
use Rattle.wiring_places.specs.place_rules.Parts.{class_plan, no_class, container_of, container_class, inside_of, children}

-- the protocol of a port, if there is one
abbrev pub protocol_of : Option PortPlan → Option ℕ
protocol_of None = None
protocol_of (Some port) = port.protocol

-- the class of a reference
abbrev pub class_of_reference : StructurePlan → Option ReferencePlan → ClassPlan
class_of_reference plan None = no_class
class_of_reference plan (Some reference) = class_plan plan reference.class

-- the protocol of the service that a layer connection of a class gives
abbrev pub layer_protocol : StructurePlan → ClassPlan → LayerPlan → Option ℕ
layer_protocol plan class layer = protocol_of (slice_get (class_of_reference plan (slice_get class.references layer.provider)).ports layer.service)

abbrev pub same_protocol : Option ℕ → Option ℕ → Bool
same_protocol None q = false
same_protocol (Some p) None = false
same_protocol (Some p) (Some q) = p == q

-- whether a layer connection of a class gives service access points of a protocol below a reference their service
abbrev pub fits : StructurePlan → ClassPlan → ℕ → Option ℕ → LayerPlan → Bool
fits plan class reference protocol layer = (layer.reference == reference) && same_protocol (layer_protocol plan class layer) protocol

-- the first layer connection of a class, in order of declaration, that fits
abbrev pub fitting : StructurePlan → ClassPlan → ℕ → Option ℕ → Option LayerPlan
fitting plan class reference protocol = find (fits plan class reference protocol) class.layers

-- the slot and the port of the service that a layer connection of a container gives
abbrev pub service_at : List Slot → ℕ → LayerPlan → Option (ℕ × ℕ)
service_at slots c layer = option_map (λ s. (s, layer.service)) (slice_get (children slots c layer.provider) 0)

-- A slot and those that it is a part of, the inner ones first; no more than n of them.
abbrev pub parent_number : Option SlotId → Option ℕ
parent_number None = None
parent_number (Some s) = Some s.0

abbrev pub slot_if : List Slot → Option ℕ → Option Slot
slot_if slots None = None
slot_if slots (Some s) = slice_get slots s

-- what a container decides: its fitting layer connection, else those above
abbrev pub decided : List Slot → ℕ → Option LayerPlan → Option (ℕ × ℕ) → Option (ℕ × ℕ)
decided slots c None above = above
decided slots c (Some layer) above = service_at slots c layer

-- The service for the service access points of a protocol that stand in a slot: the slot's container decides if it has a fitting layer connection, else those above it, no more than n of them.
unfoldable pub service : StructurePlan → List Slot → ℕ → Option ℕ → Option Slot → Option (ℕ × ℕ)
service plan slots n protocol None = None
service plan slots zero protocol (Some x) = None
service plan slots (suc n) protocol (Some x) =
    decided slots (container_of x) (fitting plan (container_class plan slots (container_of x)) x.reference protocol) (service plan slots n protocol (slot_if slots (parent_number x.parent)))

-- The service for a service access point of a slot, joined to it.
abbrev pub join_of : ℕ → ℕ → Option (ℕ × ℕ) → List LayerJoin
join_of s p None = []
join_of s p (Some to) = record { sap_slot = s; sap = p; spp_slot = to.0; spp = to.1 } ∷ []

abbrev pub is_sap : PortKind → Bool
is_sap Frame = false
is_sap Relay = false
is_sap End = false
is_sap Internal = false
is_sap Sap = true
is_sap Spp = false

-- what port p of slot s is joined to by layer connections
abbrev pub port_join : StructurePlan → List Slot → ℕ → ℕ → PortPlan → List LayerJoin
port_join plan slots s p port = if is_sap port.kind then join_of s p (service plan slots (length slots) port.protocol (slice_get slots s)) else []

-- what the ports of slot s are joined to by layer connections; the first port listed has the number p
unfoldable pub port_joins : StructurePlan → List Slot → ℕ → ℕ → List PortPlan → List LayerJoin
port_joins plan slots s p [] = []
port_joins plan slots s p (port ∷ ports) = port_join plan slots s p port ++ port_joins plan slots s (p + 1) ports

-- what the slots' ports are joined to by layer connections; the first slot listed has the number s
unfoldable pub slot_joins : StructurePlan → List Slot → ℕ → List Slot → List LayerJoin
slot_joins plan slots s [] = []
slot_joins plan slots s (x ∷ xs) = port_joins plan slots s 0 (inside_of plan (Some x)).ports ++ slot_joins plan slots (s + 1) xs

-- the joins of service access points and service provision points, in order of slot and port
abbrev pub layer_joins : StructurePlan → List Slot → List LayerJoin
layer_joins plan slots = slot_joins plan slots 0 slots
