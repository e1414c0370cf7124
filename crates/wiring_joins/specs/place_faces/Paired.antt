-- The pairs of faces of a structure with its slots.
use Rattle.std.specs.Prelude.{ℕ, ◌+◌, ◌*◌, List, [], ◌++◌, length, sum}
use Rattle.room_wiring.specs.declared.slot.Slot.{Slot}
use Rattle.room_wiring.specs.declared.tables.PlaceSpan.{PlaceSpan}
use Rattle.wiring_plan.specs.declared.structure_plan.plan.StructurePlan.{StructurePlan}
use Rattle.number_graphs.specs.declared.face_chains.FacePair.{FacePair}
use Rattle.number_graphs.specs.face_chains.Chains.{IsMatching, AreBelow}
use Rattle.wiring_places.specs.declared.place_rules.place.Place.{Place}
use Rattle.wiring_places.specs.place_rules.Layers.{layer_joins}
use Rattle.wiring_places.specs.place_rules.Counts.{counts, spans_from, first_ports_from}
use Rattle.wiring_places.specs.place_rules.Pairs.{container_pairs, layer_pairs}
use Rattle.wiring_places.specs.place_rules.Partners.{all_places}
use Rattle.wiring_joins.specs.place_joins.Joined.{PairsInnerFacesOfRelays}

-- how many places each port of each slot has
abbrev pub counts_of : StructurePlan → List Slot → List ℕ
counts_of plan slots = counts plan slots (layer_joins plan slots)

-- where they stand
abbrev pub spans_of : StructurePlan → List Slot → List PlaceSpan
spans_of plan slots = spans_from 0 (counts_of plan slots)

-- the row of all places
abbrev pub places_of : StructurePlan → List Slot → List Place
places_of plan slots = all_places plan slots (counts_of plan slots)

-- the pairs that bindings make, and then those that layer connections make
abbrev pub pairs_of : StructurePlan → List Slot → List FacePair
pairs_of plan slots =
    container_pairs plan slots (first_ports_from plan 0 slots) (spans_of plan slots) 0 (length slots + 1) ++ layer_pairs (first_ports_from plan 0 slots) (spans_of plan slots) [] (layer_joins plan slots)

-- No face is paired twice, each is a face of a place, and only places that pass messages on have inner faces that are paired.
abbrev pub IsPairedOnce : StructurePlan → List Slot → Type 0
IsPairedOnce plan slots =
    IsMatching (pairs_of plan slots) × AreBelow (2 * sum (counts_of plan slots)) (pairs_of plan slots) × PairsInnerFacesOfRelays (places_of plan slots) (pairs_of plan slots)
