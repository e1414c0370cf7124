-- The pairs of a structure's faces are a matching.
use Rattle.std.proofs.Common.{◌≡◌, ◌≢◌, ◌∙◌, ◌⊎◌, inl, inr, ℕ, zero, suc, ◌+◌, ◌*◌, ◌<◌, ◌≤◌, true, false, cond, List, [], ◌∷◌, length, Some, slice_get, slice_index, sum, refl, sym, ap, subst, arith}
use Rattle.std.proofs.lemmas.Option.{same_Some}
use Rattle.room_kinds.specs.declared.structure.PortKind.{PortKind}
use Rattle.room_kinds.specs.declared.structure.PortKind.TheVariants.{Relay, End, Internal, Sap, Spp}
use Rattle.room_wiring.specs.declared.slot.Slot.{Slot}
use Rattle.wiring_plan.specs.declared.structure_plan.plan.SidePlan.{SidePlan}
use Rattle.wiring_plan.specs.declared.structure_plan.plan.PortPlan.{PortPlan}
use Rattle.wiring_plan.specs.declared.structure_plan.plan.StructurePlan.{StructurePlan}
use Rattle.number_graphs.specs.declared.face_chains.FacePair.{FacePair}
use Rattle.number_graphs.specs.face_chains.Chains.{IsMatching, AreBelow}
use Rattle.number_graphs.specs.face_matchings.Faces.{HasFace, AreApart}
use Rattle.number_graphs.specs.face_matchings.Offsets.{offset}
use Rattle.number_graphs.proofs.face_matchings.Matchings.{has_either, matching_both, below_from, paired_has}
use Rattle.wiring_places.specs.declared.place_rules.place.LayerJoin.{LayerJoin}
use Rattle.wiring_places.specs.declared.place_rules.place.Place.{Place}
use Rattle.room_kinds.specs.Structure.{is_imported}
use Rattle.wiring_places.specs.place_rules.Layers.{layer_joins}
use Rattle.wiring_places.specs.place_rules.Counts.{first_ports_from}
use Rattle.wiring_places.specs.place_rules.Pairs.{container_pairs, layer_pairs}
use Rattle.wiring_places.specs.place_rules.Partners.{is_relay_role, role_of, across_from, across_places}
use Rattle.wiring_joins.specs.place_joins.Joined.{PairsInnerFacesOfRelays}
use Rattle.wiring_joins.specs.place_faces.SlotsOf.{AreSlotsOf}
use Rattle.wiring_joins.specs.place_faces.Paired.{counts_of, spans_of, places_of, pairs_of, IsPairedOnce}
use Rattle.wiring_joins.proofs.place_faces.Rows.{row_of, place_is}
use Rattle.wiring_joins.proofs.place_faces.Faces.{IsFace, same_face, face_below}
use Rattle.wiring_joins.proofs.place_faces.Uses.{UsesOwn, Uses}
use Rattle.wiring_joins.proofs.place_faces.Containers.{containers_use, containers_matching}
use Rattle.wiring_joins.proofs.place_faces.Services.{ComeFrom, joins_good}
use Rattle.wiring_joins.proofs.place_faces.LayerPairs.{UsesService, services_use, services_matching}

-- the outer face lies across the inner face of a place that passes messages on
across_relay : (face : ℕ) (xs : List Place) (i : ℕ) (x : Place) → slice_get xs i ≡ Some x → is_relay_role x.role ≡ true → slice_index (across_from face xs) (2 * i + 1) ≡ face + 2 * i
unfolding across_from
across_relay face [] i x e r = absurd cc
across_relay face (y ∷ ys) zero x e r =
    let out : is_relay_role y.role ≡ true = ap (λ (z : Place). is_relay_role z.role) (same_Some y x e) ∙ r in
    let here : cond (is_relay_role y.role) face (face + 1) ≡ face = ap (λ b. cond b face (face + 1)) out in
    let two : 1 ≡ 2 * 0 + 1 = omega arith in
    let at : slice_index (across_from face (y ∷ ys)) 1 ≡ face + 2 * 0 = here ∙ omega arith in
    let Q : ℕ → Type 0 = λ n. slice_index (across_from face (y ∷ ys)) n ≡ face + 2 * 0 in subst Q two at
across_relay face (y ∷ ys) (suc i) x e r =
    let two : suc (suc (2 * i + 1)) ≡ 2 * suc i + 1 = omega arith in
    let on : slice_index (across_from (face + 2) ys) (2 * i + 1) ≡ (face + 2) + 2 * i = across_relay (face + 2) ys i x e r in
    let at : slice_index (across_from face (y ∷ ys)) (suc (suc (2 * i + 1))) ≡ face + 2 * suc i = on ∙ omega arith in
    let Q : ℕ → Type 0 = λ n. slice_index (across_from face (y ∷ ys)) n ≡ face + 2 * suc i in subst Q two at

module _ (plan : StructurePlan) (slots : List Slot) (are : AreSlotsOf plan slots) where
  abbrev joins : List LayerJoin
  joins = layer_joins plan slots

  abbrev bound : List FacePair
  bound = container_pairs plan slots (first_ports_from plan 0 slots) (spans_of plan slots) 0 (length slots + 1)

  abbrev served : List FacePair
  served = layer_pairs (first_ports_from plan 0 slots) (spans_of plan slots) [] joins

  come_from_start : (js : List LayerJoin) → ComeFrom 0 0 js
  come_from_start [] = tt
  come_from_start (j ∷ js) = (start j.sap_slot, come_from_start js)
    where
      start : (t : ℕ) → (0 < t) ⊎ ((0 ≡ t) × (0 ≤ j.sap))
      start zero = inr (refl, omega arith)
      start (suc t) = inl (omega arith)

  served_use : (f : ℕ) → HasFace served f → UsesService plan slots joins [] 0 0 f
  served_use f h = services_use plan slots joins [] joins 0 0 f refl (come_from_start joins) (joins_good plan slots joins are).1 h

  abbrev IsBoundKind : PortKind → Type 0
  IsBoundKind kind = (kind ≡ Relay) ⊎ ((kind ≡ End) ⊎ (kind ≡ Internal))

  abbrev IsServedKind : PortKind → Type 0
  IsServedKind kind = (kind ≡ Sap) ⊎ (kind ≡ Spp)

  -- what is known of a face of either kind
  pub record IsPlaced (IsItsKind : PortKind → Type 0) (f : ℕ) : Type 0 where
    pub s : ℕ
    pub p : ℕ
    pub k : ℕ
    pub side : ℕ
    pub x : Slot
    pub port : PortPlan
    pub face : IsFace plan slots joins f s p k side x port
    pub kind : IsItsKind port.kind

  bound_placed : (f : ℕ) → HasFace bound f → IsPlaced IsBoundKind f
  bound_placed f h =
      let g = containers_use plan slots joins are (length slots + 1) 0 f h in
      elim g.4 [
        | inl u ↦ record { s = u.s; p = u.p; k = g.3; side = u.d; x = u.x; port = u.port; face = u.face; kind = own_kind u.port.kind u.d u.kind }
        | inr u ↦ record { s = u.s; p = u.p; k = u.k; side = 0; x = u.x; port = u.port; face = u.face; kind = inner_kind u.port.kind u.kind }
      ]
    where
      own_kind : (kind : PortKind) (d : ℕ) → ((kind ≡ Relay) × (d ≡ 1)) ⊎ ((kind ≡ Internal) × (d ≡ 0)) → IsBoundKind kind
      own_kind kind d (inl e) = inl e.0
      own_kind kind d (inr e) = inr (inr e.0)

      inner_kind : (kind : PortKind) → (kind ≡ Relay) ⊎ (kind ≡ End) → IsBoundKind kind
      inner_kind kind (inl e) = inl e
      inner_kind kind (inr e) = inr (inl e)

  served_placed : (f : ℕ) → HasFace served f → IsPlaced IsServedKind f
  served_placed f h = elim (served_use f h) [
    | inl u ↦ record { s = u.t; p = u.q; k = 0; side = 0; x = u.x; port = u.port; face = u.face; kind = inl u.kind }
    | inr u ↦ record { s = u.t; p = u.q; k = u.k; side = 0; x = u.x; port = u.port; face = u.face; kind = inr u.kind }
  ]

  never_both : (kind : PortKind) → IsBoundKind kind → IsServedKind kind → ⊥
  never_both kind (inl a) (inl b) = cc
  never_both kind (inl a) (inr b) = cc
  never_both kind (inr (inl a)) (inl b) = cc
  never_both kind (inr (inl a)) (inr b) = cc
  never_both kind (inr (inr a)) (inl b) = cc
  never_both kind (inr (inr a)) (inr b) = cc

  apart : AreApart bound served
  apart f h g =
      let a = bound_placed f h in
      let b = served_placed f g in
      let same = same_face plan slots joins f a.s a.p a.k a.side a.x a.port b.s b.p b.k b.side b.x b.port a.face b.face in
      let Q : PortPlan → Type 0 = λ q. IsServedKind q.kind in
      never_both a.port.kind a.kind (subst Q (sym same.port_is) b.kind)

  matching : IsMatching (pairs_of plan slots)
  matching =
      let good = joins_good plan slots joins are in
      matching_both bound served (containers_matching plan slots joins are (length slots + 1) 0) (services_matching plan slots joins [] joins refl good.0 good.1) apart

  below : AreBelow (2 * sum (counts_of plan slots)) (pairs_of plan slots)
  below = below_from (2 * sum (counts_of plan slots)) (pairs_of plan slots) (λ f h. each f (has_either bound served f h))
    where
      each : (f : ℕ) → HasFace bound f ⊎ HasFace served f → f < 2 * sum (counts_of plan slots)
      each f (inl h) = let a = bound_placed f h in face_below plan slots joins f a.s a.p a.k a.side a.x a.port a.face
      each f (inr h) = let a = served_placed f h in face_below plan slots joins f a.s a.p a.k a.side a.x a.port a.face

  -- the place of an inner face of a relay port
  relay_place : (c : ℕ) (side : SidePlan) (n f j : ℕ) → f ≡ 2 * j + 1 → UsesOwn plan slots joins c side n f → slice_index (across_places (places_of plan slots)) (2 * j + 1) ≡ 2 * j
  relay_place c side n f j e u = by_kind u.kind
    where
      by_kind : ((u.port.kind ≡ Relay) × (u.d ≡ 1)) ⊎ ((u.port.kind ≡ Internal) × (u.d ≡ 0)) → slice_index (across_places (places_of plan slots)) (2 * j + 1) ≡ 2 * j
      by_kind (inl relay) =
          let number = u.face.number in
          let inner = relay.1 in
          let place : offset (counts_of plan slots) (row_of plan slots joins u.s u.p) + n ≡ j = omega (arith, number, inner, e) in
          let there = place_is plan slots joins u.s u.x u.p u.port n u.face.at u.face.within in
          let at : slice_get (places_of plan slots) j ≡ Some (record { slot = u.s; port = u.p; place = n; role = role_of (is_imported u.x.kind) u.port.kind }) = ap (slice_get (places_of plan slots)) (sym place) ∙ there in
          let role : is_relay_role (role_of (is_imported u.x.kind) u.port.kind) ≡ true = ap (λ b. is_relay_role (role_of b u.port.kind)) u.present ∙ ap (λ kind. is_relay_role (role_of false kind)) relay.0 in
          across_relay 0 (places_of plan slots) j _ at role ∙ omega arith
      by_kind (inr internal) = let number = u.face.number in let outer = internal.1 in absurd (omega (arith, number, outer, e))

  relays : PairsInnerFacesOfRelays (places_of plan slots) (pairs_of plan slots)
  relays f j paired = each (has_either bound served (2 * j + 1) (paired_has (pairs_of plan slots) f (2 * j + 1) paired))
    where
      own_or_inner : (c : ℕ) (side : SidePlan) (n : ℕ) → Uses plan slots joins c side n (2 * j + 1) → slice_index (across_places (places_of plan slots)) (2 * j + 1) ≢ 2 * j + 1
      own_or_inner c side n (inl u) = λ e. let at = relay_place c side n (2 * j + 1) j refl u in omega (arith, e, at)
      own_or_inner c side n (inr u) = let number = u.face.number in absurd (omega (arith, number))

      each : HasFace bound (2 * j + 1) ⊎ HasFace served (2 * j + 1) → slice_index (across_places (places_of plan slots)) (2 * j + 1) ≢ 2 * j + 1
      each (inl h) = let g = containers_use plan slots joins are (length slots + 1) 0 (2 * j + 1) h in own_or_inner g.0 g.2 g.3 g.4
      each (inr h) = served_outer (served_use (2 * j + 1) h)
        where
          served_outer : UsesService plan slots joins [] 0 0 (2 * j + 1) → slice_index (across_places (places_of plan slots)) (2 * j + 1) ≢ 2 * j + 1
          served_outer (inl u) = let number = u.face.number in absurd (omega (arith, number))
          served_outer (inr u) = let number = u.face.number in absurd (omega (arith, number))

  pub paired_once : IsPairedOnce plan slots
  paired_once = (matching, below, relays)
