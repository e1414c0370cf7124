-- The pairs of service access points and service provision points are a matching.
use Rattle.std.proofs.Common.{◌≡◌, ◌≢◌, ◌∙◌, ◌⊎◌, inl, inr, ℕ, suc, ◌+◌, ◌*◌, ◌<◌, ◌≤◌, cond, ◌==◌, List, [], ◌∷◌, ◌++◌, append_assoc, refl, sym, ap, subst, arith, eq-eqb}
use Rattle.std.proofs.lemmas.List.Sums.{sum_by-append, sum_by-cons}
use Rattle.room_kinds.specs.declared.structure.PortKind.{PortKind}
use Rattle.room_kinds.specs.declared.structure.PortKind.TheVariants.{Sap, Spp}
use Rattle.room_wiring.specs.declared.slot.Slot.{Slot}
use Rattle.wiring_plan.specs.declared.structure_plan.plan.PortPlan.{PortPlan}
use Rattle.wiring_plan.specs.declared.structure_plan.plan.StructurePlan.{StructurePlan}
use Rattle.number_graphs.specs.declared.face_chains.FacePair.{FacePair}
use Rattle.number_graphs.specs.face_chains.Chains.{IsMatching}
use Rattle.number_graphs.specs.face_matchings.Faces.{HasFace}
use Rattle.number_graphs.proofs.face_matchings.Matchings.{matching_more}
use Rattle.wiring_places.specs.declared.place_rules.place.LayerJoin.{LayerJoin}
use Rattle.wiring_places.specs.place_rules.Counts.{counts, spans_from, first_ports_from, span_of, served_at, service_key}
use Rattle.wiring_places.specs.place_rules.Pairs.{layer_pairs}
use Rattle.wiring_joins.proofs.place_faces.Faces.{IsFace, same_face, face_of_span}
use Rattle.wiring_joins.proofs.place_faces.Uses.{count_by_kind}
use Rattle.wiring_joins.proofs.place_faces.Services.{IsOfKind, IsJoin, AreJoins, ComesFrom, ComeFrom, AreInOrder}

module _ (plan : StructurePlan) (slots : List Slot) (joins : List LayerJoin) where
  -- f is the face of a service access point that doesn't come before port p of slot s
  pub record UsesSap (s p f : ℕ) : Type 0 where
    pub t : ℕ
    pub q : ℕ
    pub x : Slot
    pub port : PortPlan
    pub face : IsFace plan slots joins f t q 0 0 x port
    pub kind : port.kind ≡ Sap
    pub later : ComesFrom s p t q

  -- f is the face of a place of a service provision point that the joins before leave free
  pub record UsesSpp (before : List LayerJoin) (f : ℕ) : Type 0 where
    pub t : ℕ
    pub q : ℕ
    pub k : ℕ
    pub x : Slot
    pub port : PortPlan
    pub face : IsFace plan slots joins f t q k 0 x port
    pub kind : port.kind ≡ Spp
    pub free : served_at before (service_key t q) ≤ k

  abbrev pub UsesService : List LayerJoin → ℕ → ℕ → ℕ → Type 0
  UsesService before s p f = UsesSap s p f ⊎ UsesSpp before f

  served_more : (before js : List LayerJoin) (j : LayerJoin) → served_at (before ++ j ∷ js) (service_key j.spp_slot j.spp) ≡ served_at before (service_key j.spp_slot j.spp) + (1 + served_at js (service_key j.spp_slot j.spp))
  served_more before js j =
      let key = service_key j.spp_slot j.spp in
      let one : LayerJoin → ℕ = λ i. cond (key == service_key i.spp_slot i.spp) 1 0 in
      let both = sum_by-append one before (j ∷ js) in
      let more = sum_by-cons one j js in
      let here : one j ≡ 1 = ap (λ b. cond b 1 0) (eq-eqb key key refl) in
      omega (arith, both, more, here)

  -- the joins before take no more of a service provision point than they and one more do
  served_grows : (before : List LayerJoin) (j : LayerJoin) (key : ℕ) → served_at before key ≤ served_at (before ++ j ∷ []) key
  served_grows before j key =
      let one : LayerJoin → ℕ = λ i. cond (key == service_key i.spp_slot i.spp) 1 0 in
      let both = sum_by-append one before (j ∷ []) in
      omega (arith, both)

  abbrev pairs_of : List LayerJoin → List LayerJoin → List FacePair
  pairs_of = layer_pairs (first_ports_from plan 0 slots) (spans_from 0 (counts plan slots joins))

  abbrev first_of : ℕ → ℕ → ℕ
  first_of s p = (span_of (first_ports_from plan 0 slots) (spans_from 0 (counts plan slots joins)) s p).first

  sap_face : (s p f : ℕ) (is : IsOfKind plan slots Sap s p) → f ≡ 2 * first_of s p → IsFace plan slots joins f s p 0 0 is.x is.port
  sap_face s p f is e =
      let count = count_by_kind plan slots joins s p is.x is.port Sap is.kind_is ∙ ap (λ b. cond b 0 1) is.present in
      face_of_span plan slots joins f s p 0 0 is.x is.port is.at (omega (arith, count)) (omega arith) (e ∙ omega arith)

  spp_face : (s p k f : ℕ) (is : IsOfKind plan slots Spp s p) → k < served_at joins (service_key s p) → f ≡ 2 * (first_of s p + k) → IsFace plan slots joins f s p k 0 is.x is.port
  spp_face s p k f is lt e =
      let count = count_by_kind plan slots joins s p is.x is.port Spp is.kind_is ∙ ap (λ b. cond b 0 (served_at joins (service_key s p))) is.present in
      face_of_span plan slots joins f s p k 0 is.x is.port is.at (omega (arith, count, lt)) (omega arith) (e ∙ omega arith)

  module _ (before js : List LayerJoin) (j : LayerJoin) (whole : joins ≡ before ++ j ∷ js) (is : IsJoin plan slots j) where
    abbrev left : ℕ
    left = 2 * first_of j.sap_slot j.sap

    abbrev right : ℕ
    right = 2 * (first_of j.spp_slot j.spp + served_at before (service_key j.spp_slot j.spp))

    left_face : IsFace plan slots joins left j.sap_slot j.sap 0 0 is.0.x is.0.port
    left_face = sap_face j.sap_slot j.sap left is.0 refl

    right_face : IsFace plan slots joins right j.spp_slot j.spp (served_at before (service_key j.spp_slot j.spp)) 0 is.1.x is.1.port
    right_face =
        let key = service_key j.spp_slot j.spp in
        let all = ap (λ js. served_at js key) whole in
        let more = served_more before js j in
        spp_face j.spp_slot j.spp (served_at before key) right is.1 (omega (arith, all, more)) refl

    other_kinds : (f s p k side : ℕ) (x : Slot) (port : PortPlan) (s' p' k' side' : ℕ) (x' : Slot) (port' : PortPlan) → IsFace plan slots joins f s p k side x port → IsFace plan slots joins f s' p' k' side' x' port' → port.kind ≡ Sap → port'.kind ≡ Spp → ⊥
    other_kinds f s p k side x port s' p' k' side' x' port' a b sap spp =
        let same = same_face plan slots joins f s p k side x port s' p' k' side' x' port' a b in
        let kinds : (let k : PortKind = Sap in k) ≡ Spp = sym sap ∙ ap (λ (q : PortPlan). q.kind) same.port_is ∙ spp in
        cc

    sides_differ : left ≢ right
    sides_differ e =
        let Q : ℕ → Type 0 = λ f. IsFace plan slots joins f j.sap_slot j.sap 0 0 is.0.x is.0.port in
        other_kinds right j.sap_slot j.sap 0 0 is.0.x is.0.port j.spp_slot j.spp (served_at before (service_key j.spp_slot j.spp)) 0 is.1.x is.1.port (subst Q e left_face) right_face is.0.kind_is is.1.kind_is

    left_once : UsesService (before ++ j ∷ []) j.sap_slot (suc j.sap) left → ⊥
    left_once (inl u) =
        let same = same_face plan slots joins left j.sap_slot j.sap 0 0 is.0.x is.0.port u.t u.q 0 0 u.x u.port left_face u.face in
        never u.later same.slot same.port_number
      where
        never : ComesFrom j.sap_slot (suc j.sap) u.t u.q → j.sap_slot ≡ u.t → j.sap ≡ u.q → ⊥
        never (inl lt) s p = omega (arith, lt, s)
        never (inr le) s p = let more = le.1 in omega (arith, more, p)
    left_once (inr u) = other_kinds left j.sap_slot j.sap 0 0 is.0.x is.0.port u.t u.q u.k 0 u.x u.port left_face u.face is.0.kind_is u.kind

    right_once : UsesService (before ++ j ∷ []) j.sap_slot (suc j.sap) right → ⊥
    right_once (inl u) = other_kinds right u.t u.q 0 0 u.x u.port j.spp_slot j.spp (served_at before (service_key j.spp_slot j.spp)) 0 is.1.x is.1.port u.face right_face u.kind is.1.kind_is
    right_once (inr u) =
        let key = service_key j.spp_slot j.spp in
        let same = same_face plan slots joins right j.spp_slot j.spp (served_at before key) 0 is.1.x is.1.port u.t u.q u.k 0 u.x u.port right_face u.face in
        let keys = ap (λ s. served_at (before ++ j ∷ []) (service_key s j.spp)) same.slot ∙ ap (λ p. served_at (before ++ j ∷ []) (service_key u.t p)) same.port_number in
        let more = served_more before [] j in
        let place = same.place in
        let free = u.free in
        omega (arith, keys, more, place, free)

  -- the face of a join's service access point or service provision point
  pub services_use : (before js : List LayerJoin) (s p f : ℕ) → joins ≡ before ++ js → ComeFrom s p js → AreJoins plan slots js → HasFace (pairs_of before js) f → UsesService before s p f
  unfolding layer_pairs
  services_use before [] s p f whole from is h = absurd h
  services_use before (j ∷ js) s p f whole from is (inl e) =
      let Q : ℕ → Type 0 = λ g. IsFace plan slots joins g j.sap_slot j.sap 0 0 is.0.0.x is.0.0.port in
      inl (record { t = j.sap_slot; q = j.sap; x = is.0.0.x; port = is.0.0.port; face = subst Q e (left_face before js j whole is.0); kind = is.0.0.kind_is; later = from.0 })
  services_use before (j ∷ js) s p f whole from is (inr (inl e)) =
      let key = service_key j.spp_slot j.spp in
      let Q : ℕ → Type 0 = λ g. IsFace plan slots joins g j.spp_slot j.spp (served_at before key) 0 is.0.1.x is.0.1.port in
      inr (record { t = j.spp_slot; q = j.spp; k = served_at before key; x = is.0.1.x; port = is.0.1.port; face = subst Q e (right_face before js j whole is.0); kind = is.0.1.kind_is; free = omega arith })
  services_use before (j ∷ js) s p f whole from is (inr (inr h)) =
      elim (services_use (before ++ j ∷ []) js s p f (whole ∙ sym (append_assoc before (j ∷ []) js)) from.1 is.1 h) [
        | inl u ↦ inl u
        | inr u ↦ let free = u.free in let grows = served_grows before j (service_key u.t u.q) in inr (record { t = u.t; q = u.q; k = u.k; x = u.x; port = u.port; face = u.face; kind = u.kind; free = omega (arith, free, grows) })
      ]

  pub services_matching : (before js : List LayerJoin) → joins ≡ before ++ js → AreInOrder js → AreJoins plan slots js → IsMatching (pairs_of before js)
  unfolding layer_pairs
  services_matching before [] whole order is = tt
  services_matching before (j ∷ js) whole order is =
      let next : joins ≡ (before ++ j ∷ []) ++ js = whole ∙ sym (append_assoc before (j ∷ []) js) in
      matching_more (record { left = left before js j whole is.0; right = right before js j whole is.0 }) (pairs_of (before ++ j ∷ []) js) (sides_differ before js j whole is.0)
      (λ h. left_once before js j whole is.0 (services_use (before ++ j ∷ []) js j.sap_slot (suc j.sap) (left before js j whole is.0) next order.0 is.1 h))
      (λ h. right_once before js j whole is.0 (services_use (before ++ j ∷ []) js j.sap_slot (suc j.sap) (right before js j whole is.0) next order.0 is.1 h))
      (services_matching (before ++ j ∷ []) js next order.1 is.1)
