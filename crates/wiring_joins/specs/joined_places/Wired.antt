-- The places of a structure's slots, the pairs of their faces, and what each place is joined to.
use Rattle.std.specs.Prelude.{◌≡◌, ℕ, ◌+◌, ◌*◌, ◌^◌, ◌<◌, false, List, [], ◌++◌, length}
use Rattle.std.specs.List.{sum}
use Rattle.number_graphs.specs.declared.face_chains.FacePair.{FacePair}
use Rattle.number_graphs.specs.face_chains.Chains.{IsMatching, AreBelow, far_ends}
use Rattle.room_wiring.specs.declared.slot.Slot.{Slot}
use Rattle.room_wiring.specs.declared.slot.Partner.{Partner}
use Rattle.room_wiring.specs.declared.tables.PlaceSpan.{PlaceSpan}
use Rattle.wiring_plan.specs.declared.structure_plan.plan.StructurePlan.{StructurePlan}
use Rattle.wiring_places.specs.declared.place_rules.place.LayerJoin.{LayerJoin}
use Rattle.wiring_places.specs.declared.place_rules.place.Place.{Place}
use Rattle.wiring_places.specs.place_rules.Counts.{counts, spans_from, first_ports_from}
use Rattle.wiring_places.specs.place_rules.Layers.{layer_joins}
use Rattle.wiring_places.specs.place_rules.Pairs.{container_pairs, layer_pairs, lacks_place}
use Rattle.wiring_places.specs.place_rules.Partners.{all_places, across_places, partners}
use Rattle.wiring_places.specs.place_spans.Containers.{TakesFew}
use Rattle.wiring_joins.specs.place_joins.Joined.{PairsInnerFacesOfRelays}
use Rattle.wiring_joins.specs.declared.joined_places.places.WiredPlaces.{WiredPlaces}

-- how many places each port of each slot has
unfoldable pub counts_in : StructurePlan → List Slot → List ℕ
counts_in plan slots = counts plan slots (layer_joins plan slots)

-- where they stand in the row of all places
unfoldable pub spans_in : StructurePlan → List Slot → List PlaceSpan
spans_in plan slots = spans_from 0 (counts_in plan slots)

-- the row of all places
unfoldable pub places_in : StructurePlan → List Slot → List Place
places_in plan slots = all_places plan slots (counts_in plan slots)

-- the pairs of faces where so many places stand: those of the bindings of all containers, and those of layer connections
abbrev pub pairs_at : StructurePlan → List Slot → List ℕ → List PlaceSpan → List LayerJoin → List FacePair
pairs_at plan slots first_ports spans joins = container_pairs plan slots first_ports spans 0 (length slots + 1) ++ layer_pairs first_ports spans [] joins

-- the pairs of faces
unfoldable pub pairs_in : StructurePlan → List Slot → List FacePair
pairs_in plan slots = pairs_at plan slots (first_ports_from plan 0 slots) (spans_in plan slots) (layer_joins plan slots)

-- what is joined to each of these places, where these faces are paired
unfoldable pub partners_by : List Place → List FacePair → List Partner
partners_by places pairs = partners places (far_ends (across_places places) pairs)

-- what each place is joined to
abbrev pub partners_in : StructurePlan → List Slot → List Partner
partners_in plan slots = partners_by (places_in plan slots) (pairs_in plan slots)

-- No face stands in two pairs, each is a face of one of so many places, and only places that pass messages on have their inner faces paired.
pub record AreSoundPairs (count : ℕ) (places : List Place) (pairs : List FacePair) : Type 0 where
  pub matching : IsMatching pairs
  pub below : AreBelow (2 * count) pairs
  pub inner : PairsInnerFacesOfRelays places pairs

-- The places and pairs of a structure are so.
abbrev pub HasSoundPairs : StructurePlan → List Slot → Type 0
HasSoundPairs plan slots = AreSoundPairs (sum (counts_in plan slots)) (places_in plan slots) (pairs_in plan slots)

-- The structure has so few places that each side's have numbers of 64 bits, and all faces of all places numbers of 32 bits; each face that is paired is one of these.
pub record HasFewPlaces (plan : StructurePlan) (slots : List Slot) : Type 0 where
  pub taken : TakesFew plan slots
  pub few : sum (counts_in plan slots) < 2 ^ 31
  pub below : AreBelow (2 * sum (counts_in plan slots)) (pairs_in plan slots)

-- The tables of the places of a structure's slots, each of whose bindings pairs something.
pub record ArePlacesOf (plan : StructurePlan) (slots : List Slot) (p : WiredPlaces) : Type 0 where
  pub pairing : lacks_place plan slots ≡ false
  pub first_ports : p.first_ports ≡ first_ports_from plan 0 slots
  pub spans : p.spans ≡ spans_in plan slots
  pub places : p.places.items ≡ places_in plan slots
  pub partners : p.partners ≡ partners_in plan slots
