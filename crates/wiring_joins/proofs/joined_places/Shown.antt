-- Partners say what is joined.
use Rattle.std.proofs.Common.{◌≡◌, ◌∙◌, ℕ, ◌+◌, ◌*◌, List, [], ◌∷◌, length, refl, sym, ap, subst, arith}
use Rattle.std.specs.List.{sum}
use Rattle.number_graphs.specs.declared.face_chains.FacePair.{FacePair}
use Rattle.number_graphs.specs.face_chains.Chains.{AreBelow, far_ends}
use Rattle.number_graphs.proofs.face_chains.Shown.{shown_at}
use Rattle.room_wiring.specs.declared.slot.Slot.{Slot}
use Rattle.wiring_plan.specs.declared.structure_plan.plan.StructurePlan.{StructurePlan}
use Rattle.wiring_places.specs.declared.place_rules.place.Place.{Place}
use Rattle.wiring_places.specs.place_rules.Partners.{across_places, across_from, partners}
use Rattle.wiring_joins.specs.place_joins.Joined.{ShowsJoins}
use Rattle.wiring_joins.proofs.place_joins.AcrossLaw.{across_is_involution}
use Rattle.wiring_joins.proofs.place_joins.JoinedLaw.{shows_joins_at}
use Rattle.wiring_joins.specs.joined_places.Wired.{AreSoundPairs, HasSoundPairs, counts_in, places_in, pairs_in, partners_by, partners_in}
use Rattle.wiring_joins.proofs.joined_places.Counted.{places_counted}

-- each place has two faces
pub two_faces : (face : ℕ) (xs : List Place) → length (across_from face xs) ≡ 2 * length xs
unfolding across_from
two_faces face [] = refl
two_faces face (x ∷ xs) = let h = two_faces (face + 2) xs in omega (arith, h)

sound_shown : (count : ℕ) (places : List Place) (pairs : List FacePair) → length places ≡ count → AreSoundPairs count places pairs → ShowsJoins places pairs (partners_by places pairs)
unfolding partners_by
sound_shown count places pairs size sound =
    let faces : 2 * count ≡ length (across_places places) = ap (λ (n : ℕ). 2 * n) (sym size) ∙ sym (two_faces 0 places) in
    let below : AreBelow (length (across_places places)) pairs = subst (λ (n : ℕ). AreBelow n pairs) faces sound.below in
    shows_joins_at places (far_ends (across_places places) pairs) (partners places (far_ends (across_places places) pairs)) refl pairs
    (shown_at (across_places places) pairs (far_ends (across_places places) pairs) refl (across_is_involution places) sound.matching below) sound.inner

pub pairs_shown : (plan : StructurePlan) (slots : List Slot) → HasSoundPairs plan slots → ShowsJoins (places_in plan slots) (pairs_in plan slots) (partners_in plan slots)
pairs_shown plan slots sound = sound_shown (sum (counts_in plan slots)) (places_in plan slots) (pairs_in plan slots) (places_counted plan slots) sound
