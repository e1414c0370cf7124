-- What lies across faces is an involution.
use Rattle.std.proofs.Common.{◌≡◌, ℕ, ◌+◌, ◌<◌, Bool, true, false, List, [], ◌∷◌, length, suc, zero, refl, sym, ap, ◌∙◌, subst, arith, slice_index}
use Rattle.std.specs.Prelude.{if◌then◌else◌}
use Rattle.number_graphs.specs.face_chains.Chains.{IsInvolution}
use Rattle.wiring_places.specs.declared.place_rules.place.Place.{Place}
use Rattle.wiring_places.specs.place_rules.Partners.{is_relay_role, across_places, across_from}

-- the face across a face, counted from the first face, is one of the faces, and the first one is across it
record IsAcross (xs : List ℕ) (face f : ℕ) : Type 0 where
  other : ℕ
  there : slice_index xs f ≡ face + other
  within : other < length xs
  back : slice_index xs other ≡ face + f

-- the faces of a first place
first_faces : (face : ℕ) (relay : Bool) (rest : List ℕ) → IsAcross ((if relay then face + 1 else face) ∷ (if relay then face else face + 1) ∷ rest) face 0 × IsAcross ((if relay then face + 1 else face) ∷ (if relay then face else face + 1) ∷ rest) face 1
first_faces face true rest =
    let z : face ≡ face + 0 = omega arith in
    (record { other = 1; there = refl; within = omega arith; back = z }, record { other = 0; there = z; within = omega arith; back = refl })
first_faces face false rest =
    let z : face ≡ face + 0 = omega arith in
    (record { other = 0; there = z; within = omega arith; back = z }, record { other = 1; there = refl; within = omega arith; back = refl })

further : (face a b f : ℕ) (rest : List ℕ) → IsAcross rest (face + 2) f → IsAcross (a ∷ b ∷ rest) face (suc (suc f))
further face a b f rest h =
    let t : (face + 2) + h.other ≡ face + suc (suc h.other) = omega arith in
    let u : (face + 2) + f ≡ face + suc (suc f) = omega arith in
    record { other = suc (suc h.other); there = h.there ∙ t; within = omega (arith, h.within); back = h.back ∙ u }

each_face : (face : ℕ) (xs : List Place) (f : ℕ) → f < length (across_from face xs) → IsAcross (across_from face xs) face f
unfolding across_from
each_face face [] f lt = absurd (omega arith)
each_face face (x ∷ xs) zero lt = (first_faces face (is_relay_role x.role) (across_from (face + 2) xs)).0
each_face face (x ∷ xs) (suc zero) lt = (first_faces face (is_relay_role x.role) (across_from (face + 2) xs)).1
each_face face (x ∷ xs) (suc (suc f)) lt = further face _ _ f (across_from (face + 2) xs) (each_face (face + 2) xs f (omega arith))

pub across_is_involution : (places : List Place) → IsInvolution (across_places places)
across_is_involution places = record {
  within = λ f lt.
      let h = each_face 0 places f lt in
      let z : 0 + h.other ≡ h.other = omega arith in
      let Q : ℕ → Type 0 = λ n. n < length (across_places places) in subst Q (sym (h.there ∙ z)) h.within;
  back = λ f lt.
      let h = each_face 0 places f lt in
      let z : 0 + h.other ≡ h.other = omega arith in
      let w : 0 + f ≡ f = omega arith in
      ap (slice_index (across_places places)) (h.there ∙ z) ∙ h.back ∙ w;
}
