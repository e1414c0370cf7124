-- The places from their parts.
use Rattle.std.proofs.Common.{◌≡◌, ◌∙◌, ℕ, ◌*◌, ◌^◌, ◌≤◌, List, [], ◌∷◌, sum, refl, sym, ap, subst, arith}
use Rattle.number_graphs.specs.declared.face_chains.FacePair.{FacePair}
use Rattle.number_graphs.specs.face_chains.Chains.{AreBelow}
use Rattle.room_wiring.specs.declared.slot.Slot.{Slot}
use Rattle.room_wiring.specs.declared.slot.Partner.{Partner}
use Rattle.room_wiring.specs.declared.tables.PlaceSpan.{PlaceSpan}
use Rattle.wiring_plan.specs.declared.structure_plan.plan.StructurePlan.{StructurePlan}
use Rattle.wiring_places.specs.declared.place_rules.place.LayerJoin.{LayerJoin}
use Rattle.wiring_places.specs.declared.place_rules.place.Place.{Place}
use Rattle.wiring_places.specs.place_rules.Counts.{counts, spans_from, first_ports_from}
use Rattle.wiring_places.specs.place_rules.Layers.{layer_joins}
use Rattle.wiring_places.specs.place_rules.Partners.{all_places}
use Rattle.wiring_joins.specs.joined_places.Wired.{counts_in, spans_in, places_in, pairs_at, pairs_in, partners_by, partners_in, HasFewPlaces}

-- numbers below a bound are below a larger one
below_more : (m n : ℕ) → m ≤ n → (ps : List FacePair) → AreBelow m ps → AreBelow n ps
below_more m n le [] h = tt
below_more m n le (p ∷ ps) h = (omega (arith, le, h.0), omega (arith, le, h.1), below_more m n le ps h.2)

module _ (plan : StructurePlan) (slots : List Slot) where
  pub counts_made : (joins : List LayerJoin) (ns : List ℕ) → joins ≡ layer_joins plan slots → ns ≡ counts plan slots joins → ns ≡ counts_in plan slots
  unfolding counts_in
  counts_made joins ns is made = made ∙ ap (λ (js : List LayerJoin). counts plan slots js) is

  pub spans_made : (ns : List ℕ) (spans : List PlaceSpan) → ns ≡ counts_in plan slots → spans ≡ spans_from 0 ns → spans ≡ spans_in plan slots
  unfolding spans_in
  spans_made ns spans is made = made ∙ ap (λ (ms : List ℕ). spans_from 0 ms) is

  pub places_made : (ns : List ℕ) (places : List Place) → ns ≡ counts_in plan slots → places ≡ all_places plan slots ns → places ≡ places_in plan slots
  unfolding places_in
  places_made ns places is made = made ∙ ap (λ (ms : List ℕ). all_places plan slots ms) is

  pub pairs_made : (joins : List LayerJoin) (first_ports : List ℕ) (spans : List PlaceSpan) (pairs : List FacePair) → joins ≡ layer_joins plan slots → first_ports ≡ first_ports_from plan 0 slots → spans ≡ spans_in plan slots → pairs ≡ pairs_at plan slots first_ports spans joins → pairs ≡ pairs_in plan slots
  unfolding pairs_in
  pairs_made joins first_ports spans pairs joins_are firsts_are spans_are made =
      made ∙ ap (λ (js : List LayerJoin). pairs_at plan slots first_ports spans js) joins_are ∙ ap (λ (fs : List ℕ). pairs_at plan slots fs spans (layer_joins plan slots)) firsts_are
      ∙ ap (λ (ss : List PlaceSpan). pairs_at plan slots (first_ports_from plan 0 slots) ss (layer_joins plan slots)) spans_are

  -- the faces that are paired have numbers of 32 bits
  pub faces_fit : (joins : List LayerJoin) (first_ports : List ℕ) (spans : List PlaceSpan) → joins ≡ layer_joins plan slots → first_ports ≡ first_ports_from plan 0 slots → spans ≡ spans_in plan slots → HasFewPlaces plan slots → AreBelow (2 ^ 32) (pairs_at plan slots first_ports spans joins)
  faces_fit joins first_ports spans joins_are firsts_are spans_are few =
      let pairs_are = pairs_made joins first_ports spans (pairs_at plan slots first_ports spans joins) joins_are firsts_are spans_are refl in
      subst (AreBelow (2 ^ 32)) (sym pairs_are) (below_more (2 * sum (counts_in plan slots)) (2 ^ 32) (omega (arith, few.few)) (pairs_in plan slots) few.below)

  pub partners_made : (places : List Place) (pairs : List FacePair) (row : List Partner) → places ≡ places_in plan slots → pairs ≡ pairs_in plan slots → row ≡ partners_by places pairs → row ≡ partners_in plan slots
  partners_made places pairs row places_are pairs_are made = made ∙ ap (λ (xs : List Place). partners_by xs pairs) places_are ∙ ap (λ (ps : List FacePair). partners_by (places_in plan slots) ps) pairs_are
