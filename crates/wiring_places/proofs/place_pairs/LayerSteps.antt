-- One more join.
use Rattle.std.proofs.Common.{◌≡◌, ℕ, ◌+◌, ◌*◌, ◌<◌, ◌≤◌, List, [], ◌∷◌, ◌++◌, length, take, drop, sym, ap, ◌∙◌, subst, append_assoc, append-nil, add-zero}
use Rattle.std.proofs.lemmas.List.{at_drop_more, at_drop_all, take_more}
use Rattle.std.specs.Prelude.{slice_index_or}
use Rattle.room_wiring.specs.declared.tables.PlaceSpan.{PlaceSpan}
use Rattle.number_graphs.specs.declared.face_chains.FacePair.{FacePair}
use Rattle.number_graphs.specs.face_chains.Chains.{AreBelow}
use Rattle.wiring_places.specs.declared.place_rules.place.LayerJoin.{LayerJoin}
use Rattle.wiring_places.specs.place_rules.Counts.{span_of, served_at, service_key}
use Rattle.wiring_places.specs.place_rules.Pairs.{layer_pairs}

module _ (first_ports : List ℕ) (spans : List PlaceSpan) (joins : List LayerJoin) (i : ℕ) where
  pub layer_pairs_more : (d : LayerJoin) (key place left right : ℕ) (done out : List FacePair) → i < length joins → key ≡ service_key (slice_index_or joins i d).spp_slot (slice_index_or joins i d).spp → place ≡ served_at (take i joins) key
      → left ≡ 2 * ((span_of first_ports spans (slice_index_or joins i d).sap_slot (slice_index_or joins i d).sap).first + 0) → right ≡ 2 * ((span_of first_ports spans (slice_index_or joins i d).spp_slot (slice_index_or joins i d).spp).first + place)
      → out ≡ done ++ record { left = left; right = right } ∷ [] → out ++ layer_pairs first_ports spans (take (i + 1) joins) (drop (i + 1) joins) ≡ done ++ layer_pairs first_ports spans (take i joins) (drop i joins)
  unfolding layer_pairs
  layer_pairs_more d key place left right done out lt e_key e_place e_left e_right pushed =
      let x = slice_index_or joins i d in
      let p : FacePair = record { left = left; right = right } in
      let rest = layer_pairs first_ports spans (take (i + 1) joins) (drop (i + 1) joins) in
      let spp = (span_of first_ports spans x.spp_slot x.spp).first in
      let sap = (span_of first_ports spans x.sap_slot x.sap).first in
      let l_is : left ≡ 2 * sap = e_left ∙ ap (λ n. 2 * n) (add-zero sap) in
      let k_is : place ≡ served_at (take i joins) (service_key x.spp_slot x.spp) = e_place ∙ ap (served_at (take i joins)) e_key in
      let r_is : right ≡ 2 * (spp + served_at (take i joins) (service_key x.spp_slot x.spp)) = e_right ∙ ap (λ n. 2 * (spp + n)) k_is in
      let q : FacePair = record { left = 2 * sap; right = 2 * (spp + served_at (take i joins) (service_key x.spp_slot x.spp)) } in
      let p_is : p ≡ q = cc in
      let more : take (i + 1) joins ≡ take i joins ++ x ∷ [] = take_more joins i d lt in
      let here : layer_pairs first_ports spans (take i joins) (drop i joins) ≡ p ∷ rest =
      at_drop_more (layer_pairs first_ports spans (take i joins)) joins i d lt ∙ ap (λ b. q ∷ layer_pairs first_ports spans b (drop (i + 1) joins)) (sym more) ∙ ap (λ z. z ∷ rest) (sym p_is) in
      ap (λ xs. xs ++ rest) pushed ∙ append_assoc done (p ∷ []) rest ∙ ap (λ xs. done ++ xs) (sym here)

  -- the faces of one more join are below what all are below
  pub layer_below : (m : ℕ) (d : LayerJoin) → i < length joins → AreBelow m (layer_pairs first_ports spans (take i joins) (drop i joins))
      → (2 * (span_of first_ports spans (slice_index_or joins i d).sap_slot (slice_index_or joins i d).sap).first < m)
      × (2 * ((span_of first_ports spans (slice_index_or joins i d).spp_slot (slice_index_or joins i d).spp).first + served_at (take i joins) (service_key (slice_index_or joins i d).spp_slot (slice_index_or joins i d).spp)) < m)
      × AreBelow m (layer_pairs first_ports spans (take (i + 1) joins) (drop (i + 1) joins))
  unfolding layer_pairs
  layer_below m d lt h =
      let x = slice_index_or joins i d in
      let here : layer_pairs first_ports spans (take i joins) (drop i joins) ≡ layer_pairs first_ports spans (take i joins) (x ∷ drop (i + 1) joins) = at_drop_more (layer_pairs first_ports spans (take i joins)) joins i d lt in
      let all = subst (AreBelow m) here h in
      (all.0, all.1, subst (λ b. AreBelow m (layer_pairs first_ports spans b (drop (i + 1) joins))) (sym (take_more joins i d lt)) all.2)

  pub layer_pairs_end : (done : List FacePair) → length joins ≤ i → done ++ layer_pairs first_ports spans (take i joins) (drop i joins) ≡ done
  unfolding layer_pairs
  layer_pairs_end done le = ap (λ xs. done ++ xs) (at_drop_all (layer_pairs first_ports spans (take i joins)) joins i le) ∙ append-nil done
