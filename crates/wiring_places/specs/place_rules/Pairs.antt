-- Which faces of places are paired. The places of all ports of all slots stand in one row; the place at i there has the outer face 2 i and the inner face 2 i + 1.
use Rattle.std.specs.Prelude.{ℕ, zero, suc, ◌+◌, ◌*◌, ◌/◌, ◌%◌, ◌==◌, ◌||◌, ◌-◌, max, Bool, false, List, [], ◌∷◌, ◌++◌, Option, Some, None, length, slice_get, slice_index}
use Rattle.std.specs.List.{list_any}
use Rattle.room_kinds.specs.declared.structure.PortKind.{PortKind}
use Rattle.room_kinds.specs.declared.structure.PortKind.TheVariants.{Frame, Relay, End, Internal, Sap, Spp}
use Rattle.room_wiring.specs.declared.slot.Slot.{Slot}
use Rattle.room_wiring.specs.declared.tables.PlaceSpan.{PlaceSpan}
use Rattle.wiring_plan.specs.declared.structure_plan.plan.SidePlan.{SidePlan}
use Rattle.wiring_plan.specs.declared.structure_plan.plan.SidePlan.TheVariants.{Own, Inner}
use Rattle.wiring_plan.specs.declared.structure_plan.plan.PortPlan.{PortPlan}
use Rattle.wiring_plan.specs.declared.structure_plan.plan.BindingPlan.{BindingPlan}
use Rattle.wiring_plan.specs.declared.structure_plan.plan.ClassPlan.{ClassPlan}
use Rattle.wiring_plan.specs.declared.structure_plan.plan.StructurePlan.{StructurePlan}
use Rattle.number_graphs.specs.declared.face_chains.FacePair.{FacePair}
use Rattle.wiring_places.specs.declared.place_rules.stretch.Stretch.{Stretch}
use Rattle.wiring_places.specs.declared.place_rules.place.LayerJoin.{LayerJoin}
use Rattle.wiring_places.specs.place_rules.Parts.{container_class, children}
use Rattle.wiring_places.specs.place_rules.Stretches.{stretches}
use Rattle.wiring_places.specs.place_rules.Counts.{span_of, served_at, service_key}

-- 1 at a port that passes messages on, 0 at others
abbrev pub is_relay : PortKind → ℕ
is_relay Frame = 0
is_relay Relay = 1
is_relay End = 0
is_relay Internal = 0
is_relay Sap = 0
is_relay Spp = 0

-- which face of its places a container's own port turns to the inside
abbrev pub inner_side : Option PortPlan → ℕ
inner_side None = 0
inner_side (Some port) = is_relay port.kind

-- the place at n of a port at several slots, by slot and then by place
abbrev pub place_at : List ℕ → List PlaceSpan → List ℕ → ℕ → ℕ → ℕ
place_at first_ports spans slots port n =
    let each = max (span_of first_ports spans (slice_index slots 0) port).count 1 in
    (span_of first_ports spans (slice_index slots (n / each)) port).first + n % each

-- the face of the place at n of a side of a binding of a container
abbrev pub side_face : List Slot → List ℕ → List PlaceSpan → ClassPlan → ℕ → SidePlan → ℕ → ℕ
side_face slots first_ports spans class c (Own port) n = 2 * ((span_of first_ports spans (c - 1) port).first + n) + inner_side (slice_get class.ports port)
side_face slots first_ports spans class c (Inner reference port) n = 2 * place_at first_ports spans (children slots c reference) port n

-- the pair at k of a binding of a container, which takes this stretch
abbrev pub stretch_pair : List Slot → List ℕ → List PlaceSpan → ClassPlan → ℕ → BindingPlan → Stretch → ℕ → FacePair
stretch_pair slots first_ports spans class c b s k = record { left = side_face slots first_ports spans class c b.left (s.left + k); right = side_face slots first_ports spans class c b.right (s.right + k) }

-- the pairs of a binding of a container, which takes this stretch: n of them, the first of them at k
unfoldable pub stretch_pairs : List Slot → List ℕ → List PlaceSpan → ClassPlan → ℕ → BindingPlan → Stretch → ℕ → ℕ → List FacePair
stretch_pairs slots first_ports spans class c b s k zero = []
stretch_pairs slots first_ports spans class c b s k (suc n) = stretch_pair slots first_ports spans class c b s k ∷ stretch_pairs slots first_ports spans class c b s (k + 1) n

-- the pairs of the bindings of a container, which take these stretches
unfoldable pub binding_pairs : List Slot → List ℕ → List PlaceSpan → ClassPlan → ℕ → List BindingPlan → List Stretch → List FacePair
binding_pairs slots first_ports spans class c [] ss = []
binding_pairs slots first_ports spans class c (b ∷ bs) [] = []
binding_pairs slots first_ports spans class c (b ∷ bs) (s ∷ ss) = stretch_pairs slots first_ports spans class c b s 0 s.count ++ binding_pairs slots first_ports spans class c bs ss

-- the pairs of n containers, the first of them at c
unfoldable pub container_pairs : StructurePlan → List Slot → List ℕ → List PlaceSpan → ℕ → ℕ → List FacePair
container_pairs plan slots first_ports spans c zero = []
container_pairs plan slots first_ports spans c (suc n) =
    let class = container_class plan slots c in
    binding_pairs slots first_ports spans class c class.bindings (stretches plan class) ++ container_pairs plan slots first_ports spans (c + 1) n

-- The pairs of service access points and service provision points. Those of one service provision point take its places in order; `before` is the joins before these.
unfoldable pub layer_pairs : List ℕ → List PlaceSpan → List LayerJoin → List LayerJoin → List FacePair
layer_pairs first_ports spans before [] = []
layer_pairs first_ports spans before (j ∷ js) =
    record { left = 2 * (span_of first_ports spans j.sap_slot j.sap).first; right = 2 * ((span_of first_ports spans j.spp_slot j.spp).first + served_at before (service_key j.spp_slot j.spp)) }
    ∷ layer_pairs first_ports spans (before ++ j ∷ []) js

-- whether a binding pairs nothing
abbrev pub pairs_nothing : Stretch → Bool
pairs_nothing s = s.count == 0

-- whether a binding of one of n containers, the first of them at c, pairs nothing
unfoldable pub lacks_place_from : StructurePlan → List Slot → ℕ → ℕ → Bool
lacks_place_from plan slots c zero = false
lacks_place_from plan slots c (suc n) = list_any pairs_nothing (stretches plan (container_class plan slots c)) || lacks_place_from plan slots (c + 1) n

-- whether some binding of some container pairs nothing
abbrev pub lacks_place : StructurePlan → List Slot → Bool
lacks_place plan slots = lacks_place_from plan slots 0 (length slots + 1)
