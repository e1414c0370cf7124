-- How many places the ports of the slots have, and where they stand in the row of all places.
use Rattle.std.specs.Prelude.{ℕ, ◌+◌, ◌*◌, ◌==◌, Bool, List, [], ◌∷◌, ◌++◌, length, slice_index, slice_index_or, if◌then◌else◌, count_by}
use Rattle.room_kinds.specs.declared.structure.PortKind.{PortKind}
use Rattle.room_kinds.specs.declared.structure.PortKind.TheVariants.{Frame, Relay, End, Internal, Sap, Spp}
use Rattle.room_wiring.specs.declared.slot.Slot.{Slot}
use Rattle.room_wiring.specs.declared.tables.PlaceSpan.{PlaceSpan}
use Rattle.wiring_plan.specs.declared.structure_plan.plan.PlacesPlan.{PlacesPlan}
use Rattle.wiring_plan.specs.declared.structure_plan.plan.PlacesPlan.TheVariants.{One, Number, Any}
use Rattle.wiring_plan.specs.declared.structure_plan.plan.PortPlan.{PortPlan}
use Rattle.wiring_plan.specs.declared.structure_plan.plan.StructurePlan.{StructurePlan}
use Rattle.wiring_places.specs.declared.place_rules.place.LayerJoin.{LayerJoin}
use Rattle.room_kinds.specs.Structure.{is_imported}
use Rattle.wiring_places.specs.place_rules.Parts.{class_plan, container_of, container_class}
use Rattle.wiring_places.specs.place_rules.Stretches.{all_taken}

-- the places of a port that have a number, where one with `[*]` got so many
abbrev pub count_of : PlacesPlan → ℕ → ℕ
count_of One got = 1
count_of (Number n) got = n
count_of Any got = got

-- How many places a port of a slot has. `outside` is how many of them the bindings of the slot's container pair, `inside` how many those of the slot's own inside pair, and `served` how many service access points are joined to it.
abbrev pub place_count : Bool → PortKind → PlacesPlan → ℕ → ℕ → ℕ → ℕ
place_count imported Frame places outside inside served = 1
place_count imported Relay places outside inside served = count_of places 0
place_count imported End places outside inside served = count_of places outside
place_count imported Internal places outside inside served = if imported then 0 else count_of places inside
place_count imported Sap places outside inside served = if imported then 0 else 1
place_count imported Spp places outside inside served = if imported then 0 else served

-- the ports of all slots by number; ports have numbers below 65,536
abbrev pub service_key : ℕ → ℕ → ℕ
service_key s p = s * 65536 + p

-- how many service access points are joined to the port of this number
abbrev pub served_at : List LayerJoin → ℕ → ℕ
served_at joins key = count_by (λ (j : LayerJoin). key == service_key j.spp_slot j.spp) joins

-- How many places port p of slot s has. `outside` and `inside` say how many places of each side the bindings of the slot's container and of its own inside take, `served` how many service access points each port serves, and `reference` is the slot's reference.
abbrev pub port_count : (ℕ → ℕ) → (ℕ → ℕ) → (ℕ → ℕ) → ℕ → Bool → ℕ → ℕ → PortPlan → ℕ
port_count outside inside served s imported reference p port = place_count imported port.kind port.places (outside ((reference + 1) * 65536 + p)) (inside p) (served (service_key s p))

-- the counts of a slot's ports; the first port listed has the number p
unfoldable pub counts_of_ports : (ℕ → ℕ) → (ℕ → ℕ) → (ℕ → ℕ) → ℕ → Bool → ℕ → ℕ → List PortPlan → List ℕ
counts_of_ports outside inside served s imported reference p [] = []
counts_of_ports outside inside served s imported reference p (port ∷ ports) = port_count outside inside served s imported reference p port ∷ counts_of_ports outside inside served s imported reference (p + 1) ports

-- the counts of the slots' ports, slot after slot; the first slot listed has the number s
unfoldable pub counts_of_slots : StructurePlan → List Slot → List LayerJoin → ℕ → List Slot → List ℕ
counts_of_slots plan slots joins s [] = []
counts_of_slots plan slots joins s (x ∷ xs) =
    counts_of_ports (all_taken plan (container_class plan slots (container_of x))) (all_taken plan (container_class plan slots (s + 1))) (served_at joins) s (is_imported x.kind) x.reference 0 (class_plan plan x.class).ports ++ counts_of_slots plan slots joins (s + 1) xs

-- how many places each port of each slot has
abbrev pub counts : StructurePlan → List Slot → List LayerJoin → List ℕ
counts plan slots joins = counts_of_slots plan slots joins 0 slots

-- where so many places each stand in a row, the first of them at `first`
unfoldable pub spans_from : ℕ → List ℕ → List PlaceSpan
spans_from first [] = []
spans_from first (n ∷ ns) = record { first = first; count = n } ∷ spans_from (first + n) ns

-- the place of each slot's port 0 in a list of all ports, the first of them at `row`
unfoldable pub first_ports_from : StructurePlan → ℕ → List Slot → List ℕ
first_ports_from plan row [] = []
first_ports_from plan row (x ∷ xs) = row ∷ first_ports_from plan (row + length (class_plan plan x.class).ports) xs

-- no places
abbrev pub no_places : PlaceSpan
no_places = record { first = 0; count = 0 }

-- where the places of a port of a slot stand in the row of all places
abbrev pub span_of : List ℕ → List PlaceSpan → ℕ → ℕ → PlaceSpan
span_of first_ports spans s p = slice_index_or spans (slice_index first_ports s + p) no_places
