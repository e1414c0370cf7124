-- The definitions computed on a relay chain: T has c: C and b[3]: B, bound c.r to b.p; C has a: A, its relay port r[2] bound to a.p[2].
use Rattle.std.proofs.Common.{◌≡◌, ℕ, List, [], ◌∷◌, Some, None, refl}
use Rattle.room_kinds.specs.declared.structure.ReferenceKind.TheVariants.{Fixed}
use Rattle.room_kinds.specs.declared.structure.PortKind.{PortKind}
use Rattle.room_kinds.specs.declared.structure.PortKind.TheVariants.{Frame, Relay, End}
use Rattle.room_kinds.specs.declared.numbers.SlotId.{SlotId}
use Rattle.std.proofs.Common.{Option}
use Rattle.room_wiring.specs.declared.slot.Slot.{Slot}
use Rattle.room_wiring.specs.declared.slot.Partner.{Partner}
use Rattle.room_wiring.specs.declared.slot.Partner.TheVariants.{Nobody, End as EndPartner}
use Rattle.wiring_plan.specs.declared.structure_plan.plan.SidePlan.TheVariants.{Own, Inner}
use Rattle.wiring_plan.specs.declared.structure_plan.plan.PlacesPlan.{PlacesPlan}
use Rattle.wiring_plan.specs.declared.structure_plan.plan.PlacesPlan.TheVariants.{One, Number}
use Rattle.wiring_plan.specs.declared.structure_plan.plan.PortPlan.{PortPlan}
use Rattle.wiring_plan.specs.declared.structure_plan.plan.ReferencePlan.{ReferencePlan}
use Rattle.wiring_plan.specs.declared.structure_plan.plan.StructurePlan.{StructurePlan}
use Rattle.number_graphs.specs.declared.face_chains.FacePair.{FacePair}
use Rattle.number_graphs.specs.face_chains.Chains.{far_ends, far_ends_joined}
use Rattle.wiring_places.specs.place_rules.Parts.{class_plan, children}
use Rattle.wiring_places.specs.place_rules.Stretches.{stretches, stretches_from, taken_from}
use Rattle.wiring_places.specs.place_rules.Counts.{counts, counts_of_slots, counts_of_ports, spans_from, first_ports_from}
use Rattle.wiring_places.specs.place_rules.Pairs.{container_pairs, binding_pairs, stretch_pairs}
use Rattle.wiring_places.specs.place_rules.Partners.{all_places, places_of_slots, places_of_ports, places_of_port, across_places, across_from, partners, partners_from}

abbrev port : PortKind → PlacesPlan → PortPlan
port kind places = record { kind = kind; places = places; protocol = Some 0 }

abbrev frame : PortPlan
frame = record { kind = Frame; places = One; protocol = None }

abbrev reference : ℕ → ℕ → ReferencePlan
reference class count = record { class = class; kind = Fixed; count = count }

abbrev plan : StructurePlan
plan = record {
  classes =
      record { ports = frame ∷ port End (Number 2) ∷ []; references = []; bindings = []; layers = [] }
      ∷ record { ports = frame ∷ port End One ∷ []; references = []; bindings = []; layers = [] }
      ∷ record { ports = frame ∷ port Relay (Number 2) ∷ []; references = reference 0 1 ∷ []; bindings = record { left = Own 1; right = Inner 0 1 } ∷ []; layers = [] }
      ∷ record { ports = frame ∷ []; references = reference 2 1 ∷ reference 1 3 ∷ []; bindings = record { left = Inner 0 1; right = Inner 1 1 } ∷ []; layers = [] }
      ∷ [];
  subsystem = record { ports = []; references = reference 3 1 ∷ []; bindings = []; layers = [] };
}

abbrev slot : ℕ → Option SlotId → ℕ → ℕ → Slot
slot class parent r i = record { path = []; class = class; kind = Fixed; parent = parent; owner = record { 0 = 0 }; reference = r; index = i }

abbrev inside : ℕ → Option SlotId
inside s = Some (record { 0 = s })

abbrev slots : List Slot
slots = slot 3 None 0 0 ∷ slot 2 (inside 0) 0 0 ∷ slot 0 (inside 1) 0 0 ∷ slot 1 (inside 0) 1 0 ∷ slot 1 (inside 0) 1 1 ∷ slot 1 (inside 0) 1 2 ∷ []

abbrev pair : ℕ → ℕ → FacePair
pair l r = record { left = l; right = r }

abbrev all_counts : List ℕ
all_counts = 1 ∷ 1 ∷ 2 ∷ 1 ∷ 2 ∷ 1 ∷ 1 ∷ 1 ∷ 1 ∷ 1 ∷ 1 ∷ []

abbrev all_pairs : List FacePair
all_pairs = pair 4 16 ∷ pair 6 20 ∷ pair 5 10 ∷ pair 7 12 ∷ []

-- the three slots of b stand in order of index
b_slots : children slots 1 1 ≡ 3 ∷ 4 ∷ 5 ∷ []
b_slots = refl

-- the binding of T pairs the two places of c.r with the first two of the three of b.p
t_stretches : stretches plan (class_plan plan 3) ≡ record { left = 0; right = 0; count = 2 } ∷ []
unfolding stretches_from
t_stretches = refl

each_count : counts plan slots [] ≡ all_counts
unfolding counts_of_slots counts_of_ports taken_from
each_count = refl

-- the outer faces of c.r are paired with b:0.p and b:1.p, the inner ones with a.p
each_pair : container_pairs plan slots (first_ports_from plan 0 slots) (spans_from 0 all_counts) 0 7 ≡ all_pairs
unfolding container_pairs binding_pairs stretch_pairs stretches_from first_ports_from spans_from
each_pair = refl

abbrev end : ℕ → ℕ → ℕ → Partner
end s p k = EndPartner (record { 0 = s }) p k

-- a.p[0] is joined to b:0.p[0], a.p[1] to b:1.p[0], through the relay; b:2.p[0] to nobody
each_partner : partners (all_places plan slots all_counts) (far_ends (across_places (all_places plan slots all_counts)) all_pairs) ≡ Nobody ∷ Nobody ∷ Nobody ∷ Nobody ∷ Nobody ∷ end 3 1 0 ∷ end 4 1 0 ∷ Nobody ∷ end 2 1 0 ∷ Nobody ∷ end 2 1 1 ∷ Nobody ∷ Nobody ∷ []
unfolding places_of_slots places_of_ports places_of_port across_from partners_from far_ends far_ends_joined
each_partner = refl
