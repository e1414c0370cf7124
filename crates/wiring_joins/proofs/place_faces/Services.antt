-- Layer connections join service access points with service provision points.
use Rattle.std.proofs.Common.{◌≡◌, ◌∙◌, ◌⊎◌, inl, inr, ℕ, zero, suc, ◌+◌, ◌<◌, ◌≤◌, Bool, true, false, cond, List, [], ◌∷◌, ◌++◌, length, Option, Some, None, slice_get, slice_index, All, find, option_map, refl, sym, ap, subst, arith}
use Rattle.std.proofs.lemmas.Option.{same_Some, get_or_from_slice_get, slice_get_within}
use Rattle.std.proofs.lemmas.List.Elements.{All-head, All-tail}
use Rattle.room_kinds.specs.declared.structure.PortKind.{PortKind}
use Rattle.room_kinds.specs.declared.structure.PortKind.TheVariants.{Frame, Relay, End, Internal, Sap, Spp}
use Rattle.room_wiring.specs.declared.slot.Slot.{Slot}
use Rattle.wiring_plan.specs.declared.structure_plan.plan.PortPlan.{PortPlan}
use Rattle.wiring_plan.specs.declared.structure_plan.plan.LayerPlan.{LayerPlan}
use Rattle.wiring_plan.specs.declared.structure_plan.plan.StructurePlan.{StructurePlan}
use Rattle.wiring_places.specs.declared.place_rules.place.LayerJoin.{LayerJoin}
use Rattle.room_kinds.specs.Structure.{is_imported}
use Rattle.wiring_places.specs.place_rules.Parts.{class_plan, no_class, container_of, container_class, inside_of, children}
use Rattle.wiring_places.specs.place_rules.Layers.{fits, fitting, service_at, parent_number, slot_if, decided, service, join_of, is_sap, port_join, port_joins, slot_joins, layer_joins}
use Rattle.wiring_joins.specs.place_faces.SlotsOf.{GivesService, AreSlotsOf}
use Rattle.wiring_joins.proofs.place_faces.Rows.{IsPort}
use Rattle.wiring_joins.proofs.place_faces.Uses.{of_reference}

-- port p of slot s is of this kind, and the slot isn't imported
pub record IsOfKind (plan : StructurePlan) (slots : List Slot) (kind : PortKind) (s p : ℕ) : Type 0 where
  pub x : Slot
  pub port : PortPlan
  pub at : IsPort plan slots s p x port
  pub present : is_imported x.kind ≡ false
  pub kind_is : port.kind ≡ kind

-- a service access point is joined to a service provision point
abbrev pub IsJoin : StructurePlan → List Slot → LayerJoin → Type 0
IsJoin plan slots j = IsOfKind plan slots Sap j.sap_slot j.sap × IsOfKind plan slots Spp j.spp_slot j.spp

abbrev pub AreJoins : StructurePlan → List Slot → List LayerJoin → Type 0
AreJoins plan slots [] = Unit {0}
AreJoins plan slots (j ∷ js) = IsJoin plan slots j × AreJoins plan slots js

-- port q of slot t comes not before port p of slot s
abbrev pub ComesFrom : ℕ → ℕ → ℕ → ℕ → Type 0
ComesFrom s p t q = (s < t) ⊎ ((s ≡ t) × (p ≤ q))

-- the service access points of these joins don't come before port p of slot s
abbrev pub ComeFrom : ℕ → ℕ → List LayerJoin → Type 0
ComeFrom s p [] = Unit {0}
ComeFrom s p (j ∷ js) = ComesFrom s p j.sap_slot j.sap × ComeFrom s p js

-- the service access points of joins come in order
abbrev pub AreInOrder : List LayerJoin → Type 0
AreInOrder [] = Unit {0}
AreInOrder (j ∷ js) = ComeFrom j.sap_slot (suc j.sap) js × AreInOrder js

find_holds : {X : Type 0} (P : X → Type 0) (test : X → Bool) (xs : List X) (x : X) → All P xs → find test xs ≡ Some x → P x
find_holds P test [] x all e = absurd cc
find_holds P test (y ∷ ys) x all e = pick (test y) e (find_holds P test ys x (All-tail P y ys all))
  where
    pick : (b : Bool) → cond b (Some y) (find test ys) ≡ Some x → (find test ys ≡ Some x → P x) → P x
    pick true is more = subst P (same_Some y x is) (All-head P y ys all)
    pick false is more = more is

module _ (plan : StructurePlan) (slots : List Slot) (joins : List LayerJoin) (are : AreSlotsOf plan slots) where
  abbrev IsService : ℕ × ℕ → Type 0
  IsService to = IsOfKind plan slots Spp to.0 to.1

  service_of : (c : ℕ) (layer : LayerPlan) (to : ℕ × ℕ) → GivesService plan (container_class plan slots c) layer → service_at slots c layer ≡ Some to → IsService to
  service_of c layer to gives e = go (slice_get (children slots c layer.provider) 0) refl e
    where
      go : (found : Option ℕ) → slice_get (children slots c layer.provider) 0 ≡ found → option_map (λ s. (s, layer.service)) found ≡ Some to → IsService to
      go None at is = absurd cc
      go (Some s) at is =
          let among = slice_get_within (children slots c layer.provider) 0 s at in
          let first : slice_index (children slots c layer.provider) 0 ≡ s = get_or_from_slice_get (children slots c layer.provider) 0 s 0 at in
          let o = of_reference plan slots joins are c layer.provider gives.reference gives.provider 0 among in
          let there : slice_get slots s ≡ Some o.x = ap (slice_get slots) (sym first) ∙ o.slot in
          let named : slice_get (class_plan plan o.x.class).ports layer.service ≡ Some gives.port = ap (λ k. slice_get (class_plan plan k).ports layer.service) o.class ∙ gives.service in
          let here : IsService (s, layer.service) = record { x = o.x; port = gives.port; at = record { slot = there; named = named }; present = ap is_imported o.kind ∙ gives.present; kind_is = gives.kind } in
          subst IsService (same_Some (s, layer.service) to is) here

  service_is : (n : ℕ) (protocol : Option ℕ) (found : Option Slot) (to : ℕ × ℕ) → service plan slots n protocol found ≡ Some to → IsService to
  unfolding service
  service_is n protocol None to e = absurd cc
  service_is zero protocol (Some x) to e = absurd cc
  service_is (suc n) protocol (Some x) to e =
      let c = container_of x in
      let class = container_class plan slots c in
      go (fitting plan class x.reference protocol) refl e (service_is n protocol (slot_if slots (parent_number x.parent)) to)
    where
      go : (layer : Option LayerPlan) → fitting plan (container_class plan slots (container_of x)) x.reference protocol ≡ layer → decided slots (container_of x) layer (service plan slots n protocol (slot_if slots (parent_number x.parent))) ≡ Some to
          → (service plan slots n protocol (slot_if slots (parent_number x.parent)) ≡ Some to → IsService to) → IsService to
      go None at is more = more is
      go (Some layer) at is more =
          let class = container_class plan slots (container_of x) in
          service_of (container_of x) layer to (find_holds (GivesService plan class) (fits plan class x.reference protocol) class.layers layer (are.services (container_of x)) at) is

  -- these joins are of service access points from port p of slot s on, in order
  abbrev Good : ℕ → ℕ → List LayerJoin → Type 0
  Good s p js = ComeFrom s p js × AreInOrder js × AreJoins plan slots js

  come_earlier : (s p t q : ℕ) (js : List LayerJoin) → ComesFrom s p t q → ComeFrom t q js → ComeFrom s p js
  come_earlier s p t q [] e from = tt
  come_earlier s p t q (j ∷ js) e from = (both e from.0, come_earlier s p t q js e from.1)
    where
      both : ComesFrom s p t q → ComesFrom t q j.sap_slot j.sap → ComesFrom s p j.sap_slot j.sap
      both (inl a) (inl b) = inl (omega (arith, a, b))
      both (inl a) (inr b) = inl (let same = b.0 in omega (arith, a, same))
      both (inr a) (inl b) = inl (let same = a.0 in omega (arith, same, b))
      both (inr a) (inr b) = inr (a.0 ∙ b.0, (let le = a.1 in let more = b.1 in omega (arith, le, more)))

  -- one more port's join
  good_more : (s p : ℕ) (to : Option (ℕ × ℕ)) (rest : List LayerJoin) → IsOfKind plan slots Sap s p → ((t : ℕ × ℕ) → to ≡ Some t → IsService t) → Good s (p + 1) rest → Good s p (join_of s p to ++ rest)
  good_more s p None rest sap is good = (come_earlier s p s (p + 1) rest (inr (refl, omega arith)) good.0, good.1, good.2)
  good_more s p (Some t) rest sap is good = (
    (inr (refl, omega arith), come_earlier s p s (p + 1) rest (inr (refl, omega arith)) good.0),
    (come_earlier s (suc p) s (p + 1) rest (inr (refl, omega arith)) good.0, good.1),
    ((sap, is t refl), good.2),
  )

  good_port : (s p : ℕ) (x : Slot) (port : PortPlan) (rest : List LayerJoin) → IsPort plan slots s p x port → is_imported x.kind ≡ false → Good s (p + 1) rest → Good s p (port_join plan slots s p port ++ rest)
  good_port s p x port rest at present good = pick port.kind refl
    where
      skip : Good s p rest
      skip = (come_earlier s p s (p + 1) rest (inr (refl, omega arith)) good.0, good.1, good.2)

      pick : (kind : PortKind) → port.kind ≡ kind → Good s p (cond (is_sap kind) (join_of s p (service plan slots (length slots) port.protocol (slice_get slots s))) [] ++ rest)
      pick Frame e = skip
      pick Relay e = skip
      pick End e = skip
      pick Internal e = skip
      pick Sap e = good_more s p (service plan slots (length slots) port.protocol (slice_get slots s)) rest (record { x = x; port = port; at = at; present = present; kind_is = e }) (λ t is. service_is (length slots) port.protocol (slice_get slots s) t is) good
      pick Spp e = skip

  good_ports : (s p : ℕ) (x : Slot) (ports : List PortPlan) → slice_get slots s ≡ Some x → is_imported x.kind ≡ false → ((q : ℕ) → slice_get ports q ≡ slice_get (class_plan plan x.class).ports (p + q)) → Good s p (port_joins plan slots s p ports)
  unfolding port_joins
  good_ports s p x [] slot present same = (tt, tt, tt)
  good_ports s p x (port ∷ ports) slot present same =
      let first : slice_get (class_plan plan x.class).ports p ≡ Some port = (let e : p ≡ p + 0 = omega arith in ap (slice_get (class_plan plan x.class).ports) e) ∙ sym (same 0) in
      good_port s p x port (port_joins plan slots s (p + 1) ports) (record { slot = slot; named = first }) present
      (good_ports s (p + 1) x ports slot present (λ q. same (suc q) ∙ (let e : p + suc q ≡ (p + 1) + q = omega arith in ap (slice_get (class_plan plan x.class).ports) e)))

  -- all service access points of these joins are of slot s
  abbrev AreOf : ℕ → List LayerJoin → Type 0
  AreOf s [] = Unit {0}
  AreOf s (j ∷ js) = (j.sap_slot ≡ s) × AreOf s js

  one_of : (s p : ℕ) (port : PortPlan) (rest : List LayerJoin) → AreOf s rest → AreOf s (port_join plan slots s p port ++ rest)
  one_of s p port rest of = pick (is_sap port.kind) (service plan slots (length slots) port.protocol (slice_get slots s))
    where
      pick : (b : Bool) (to : Option (ℕ × ℕ)) → AreOf s (cond b (join_of s p to) [] ++ rest)
      pick true None = of
      pick true (Some t) = (refl, of)
      pick false to = of

  all_of : (s p : ℕ) (ports : List PortPlan) → AreOf s (port_joins plan slots s p ports)
  unfolding port_joins
  all_of s p [] = tt
  all_of s p (port ∷ ports) = one_of s p port (port_joins plan slots s (p + 1) ports) (all_of s (p + 1) ports)

  -- a slot's joins, and then those of the slots behind it
  good_both : (s : ℕ) (xs ys : List LayerJoin) (p : ℕ) → AreOf s xs → Good s p xs → Good (s + 1) 0 ys → Good s p (xs ++ ys)
  good_both s [] ys p of good more = (come_earlier s p (s + 1) 0 ys (inl (omega arith)) more.0, more.1, more.2)
  good_both s (j ∷ xs) ys p of good more =
      let rest = good_both s xs ys p of.1 (good.0.1, good.1.1, good.2.1) more in
      let here = of.0 in
      let behind = come_both (suc j.sap) xs of.1 good.1.0 in
      ((good.0.0, rest.0), (behind, rest.1), (good.2.0, rest.2))
    where
      come_both : (q : ℕ) (zs : List LayerJoin) → AreOf s zs → ComeFrom j.sap_slot q zs → ComeFrom j.sap_slot q (zs ++ ys)
      come_both q [] ofs from = come_earlier j.sap_slot q (s + 1) 0 ys (inl (let here = of.0 in omega (arith, here))) more.0
      come_both q (z ∷ zs) ofs from = (from.0, come_both q zs ofs.1 from.1)

  good_slot : (s : ℕ) (x : Slot) → slice_get slots s ≡ Some x → Good s 0 (port_joins plan slots s 0 (inside_of plan (Some x)).ports)
  unfolding port_joins
  good_slot s x slot = pick (is_imported x.kind) refl
    where
      pick : (b : Bool) → is_imported x.kind ≡ b → Good s 0 (port_joins plan slots s 0 (cond b no_class (class_plan plan x.class)).ports)
      pick true e = (tt, tt, tt)
      pick false e = good_ports s 0 x (class_plan plan x.class).ports slot e (λ q. let z : q ≡ 0 + q = omega arith in ap (slice_get (class_plan plan x.class).ports) z)

  good_slots : (s : ℕ) (xs : List Slot) → ((q : ℕ) → slice_get xs q ≡ slice_get slots (s + q)) → Good s 0 (slot_joins plan slots s xs)
  unfolding slot_joins
  good_slots s [] same = (tt, tt, tt)
  good_slots s (x ∷ xs) same =
      let slot : slice_get slots s ≡ Some x = (let e : s ≡ s + 0 = omega arith in ap (slice_get slots) e) ∙ sym (same 0) in
      good_both s (port_joins plan slots s 0 (inside_of plan (Some x)).ports) (slot_joins plan slots (s + 1) xs) 0 (all_of s 0 (inside_of plan (Some x)).ports) (good_slot s x slot)
      (good_slots (s + 1) xs (λ q. same (suc q) ∙ (let e : s + suc q ≡ (s + 1) + q = omega arith in ap (slice_get slots) e)))

  -- the joins are of service access points in order with service provision points
  pub joins_good : AreInOrder (layer_joins plan slots) × AreJoins plan slots (layer_joins plan slots)
  joins_good = let good = good_slots 0 slots (λ q. let z : q ≡ 0 + q = omega arith in ap (slice_get slots) z) in (good.1, good.2)
