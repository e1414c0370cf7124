-- A layer connection joins a service access point with a service provision point of its protocol.
use Rattle.std.proofs.Common.{◌≡◌, ◌∙◌, ℕ, zero, suc, ◌+◌, Bool, true, false, cond, ◌==◌, List, [], ◌∷◌, length, Option, Some, None, slice_get, slice_index, All, find, option_map, refl, sym, ap, subst, arith}
use Rattle.std.specs.List.{AllByRecursion as Each}
use Rattle.std.proofs.lemmas.Bool.{and_parts}
use Rattle.std.proofs.lemmas.Bool.Decides.{nat_tests}
use Rattle.std.proofs.lemmas.List.Elements.{All-head, All-tail}
use Rattle.std.proofs.lemmas.Option.{same_Some, get_or_from_slice_get, slice_get_within}
use Rattle.room_kinds.specs.Structure.{is_imported}
use Rattle.room_kinds.specs.declared.structure.PortKind.{PortKind}
use Rattle.room_kinds.specs.declared.structure.PortKind.TheVariants.{Frame, Relay, End, Internal, Sap, Spp}
use Rattle.room_wiring.specs.declared.slot.Slot.{Slot}
use Rattle.wiring_plan.specs.declared.structure_plan.plan.ClassPlan.{ClassPlan}
use Rattle.wiring_plan.specs.declared.structure_plan.plan.LayerPlan.{LayerPlan}
use Rattle.wiring_plan.specs.declared.structure_plan.plan.PortPlan.{PortPlan}
use Rattle.wiring_plan.specs.declared.structure_plan.plan.StructurePlan.{StructurePlan}
use Rattle.wiring_places.specs.declared.place_rules.place.LayerJoin.{LayerJoin}
use Rattle.wiring_places.specs.place_rules.Parts.{class_plan, no_class, container_of, container_class, inside_of, children}
use Rattle.wiring_places.specs.place_rules.Layers.{protocol_of, class_of_reference, layer_protocol, same_protocol, fits, fitting, service_at, parent_number, slot_if, decided, service, join_of, is_sap, port_join, port_joins, slot_joins, layer_joins}
use Rattle.wiring_joins.specs.place_faces.SlotsOf.{GivesService, AreSlotsOf}
use Rattle.wiring_joins.proofs.place_faces.Rows.{IsPort}
use Rattle.wiring_joins.proofs.place_faces.Services.{IsOfKind}
use Rattle.wiring_joins.proofs.place_faces.Uses.{of_reference}
use Rattle.law_models.proofs.class_laws.Charts.{each_both}

-- what is found in a list is one of it, and passes the test
found_in : {X : Type 0} (P : X → Type 0) (test : X → Bool) (xs : List X) (x : X) → All P xs → find test xs ≡ Some x → P x × (test x ≡ true)
found_in P test [] x all e = absurd cc
found_in {X} P test (y ∷ ys) x all e = pick (test y) refl e (found_in P test ys x (All-tail P y ys all))
  where
    pick : (b : Bool) → test y ≡ b → cond b (Some y) (find test ys) ≡ Some x → (find test ys ≡ Some x → P x × (test x ≡ true)) → P x × (test x ≡ true)
    pick true passes is more = subst (λ z. P z × (test z ≡ true)) (same_Some y x is) (All-head P y ys all, passes)
    pick false passes is more = more is

-- protocols that are the same are known
both_known : (o p : Option ℕ) → same_protocol o p ≡ true → (n : ℕ) × (o ≡ Some n) × (p ≡ Some n)
both_known None p e = absurd cc
both_known (Some a) None e = absurd cc
both_known (Some a) (Some b) e = let same : a ≡ b = one a b e in (a, refl, ap (λ n. Some n) (sym same))
  where
    one : (a b : ℕ) → (a == b) ≡ true → a ≡ b
    one a b g = grind (arith, nat_tests)

module _ (plan : StructurePlan) (slots : List Slot) where
  -- a service provision point gives the service of this protocol
  record Serves (protocol : Option ℕ) (to : ℕ × ℕ) : Type 0 where
    is : IsOfKind plan slots Spp to.0 to.1
    number : ℕ
    asked : protocol ≡ Some number
    given : is.port.protocol ≡ Some number

  -- a service access point is joined to a service provision point of its protocol
  pub record JoinsService (j : LayerJoin) : Type 0 where
    pub sap : IsOfKind plan slots Sap j.sap_slot j.sap
    pub spp : IsOfKind plan slots Spp j.spp_slot j.spp
    pub number : ℕ
    pub asks : sap.port.protocol ≡ Some number
    pub gives : spp.port.protocol ≡ Some number

  module _ (joins : List LayerJoin) (are : AreSlotsOf plan slots) where
    -- the service that a layer connection gives
    service_of : (c r : ℕ) (protocol : Option ℕ) (layer : LayerPlan) (to : ℕ × ℕ) → GivesService plan (container_class plan slots c) layer
        → fits plan (container_class plan slots c) r protocol layer ≡ true → service_at slots c layer ≡ Some to → Serves protocol to
    service_of c r protocol layer to gives fit e =
        let class : ClassPlan = container_class plan slots c in
        let same = (and_parts (layer.reference == r) (same_protocol (layer_protocol plan class layer) protocol) fit).1 in
        let known = both_known (layer_protocol plan class layer) protocol same in
        let here : layer_protocol plan class layer ≡ gives.port.protocol =
        ap (λ o. protocol_of (slice_get (class_of_reference plan o).ports layer.service)) gives.provider ∙ ap protocol_of gives.service in
        go known.0 known.2 (sym here ∙ known.1) (slice_get (children slots c layer.provider) 0) refl e
      where
        go : (n : ℕ) → protocol ≡ Some n → gives.port.protocol ≡ Some n → (found : Option ℕ) → slice_get (children slots c layer.provider) 0 ≡ found → option_map (λ s. (s, layer.service)) found ≡ Some to
            → Serves protocol to
        go n asked given None at is = absurd cc
        go n asked given (Some s) at is =
            let among = slice_get_within (children slots c layer.provider) 0 s at in
            let first : slice_index (children slots c layer.provider) 0 ≡ s = get_or_from_slice_get (children slots c layer.provider) 0 s 0 at in
            let o = of_reference plan slots joins are c layer.provider gives.reference gives.provider 0 among in
            let there : slice_get slots s ≡ Some o.x = ap (slice_get slots) (sym first) ∙ o.slot in
            let named : slice_get (class_plan plan o.x.class).ports layer.service ≡ Some gives.port = ap (λ k. slice_get (class_plan plan k).ports layer.service) o.class ∙ gives.service in
            let here : Serves protocol (s, layer.service) = record {
              is = record { x = o.x; port = gives.port; at = record { slot = there; named = named }; present = ap is_imported o.kind ∙ gives.present; kind_is = gives.kind };
              number = n;
              asked = asked;
              given = given;
            } in
            subst (Serves protocol) (same_Some (s, layer.service) to is) here

    service_is : (n : ℕ) (protocol : Option ℕ) (found : Option Slot) (to : ℕ × ℕ) → service plan slots n protocol found ≡ Some to → Serves protocol to
    unfolding service
    service_is n protocol None to e = absurd cc
    service_is zero protocol (Some x) to e = absurd cc
    service_is (suc n) protocol (Some x) to e =
        go (fitting plan (container_class plan slots (container_of x)) x.reference protocol) refl e (service_is n protocol (slot_if slots (parent_number x.parent)) to)
      where
        go : (layer : Option LayerPlan) → fitting plan (container_class plan slots (container_of x)) x.reference protocol ≡ layer
            → decided slots (container_of x) layer (service plan slots n protocol (slot_if slots (parent_number x.parent))) ≡ Some to
            → (service plan slots n protocol (slot_if slots (parent_number x.parent)) ≡ Some to → Serves protocol to) → Serves protocol to
        go None at is more = more is
        go (Some layer) at is more =
            let class : ClassPlan = container_class plan slots (container_of x) in
            let found = found_in (GivesService plan class) (fits plan class x.reference protocol) class.layers layer (are.services (container_of x)) at in
            service_of (container_of x) x.reference protocol layer to found.0 found.1 is

    -- ---- the joins of ports

    one_join : (s p : ℕ) (sap : IsOfKind plan slots Sap s p) (to : Option (ℕ × ℕ)) → ((t : ℕ × ℕ) → to ≡ Some t → Serves sap.port.protocol t) → Each JoinsService (join_of s p to)
    one_join s p sap None is = tt
    one_join s p sap (Some t) is = let h = is t refl in (record { sap = sap; spp = h.is; number = h.number; asks = h.asked; gives = h.given }, tt)

    port_serves : (s p : ℕ) (x : Slot) (port : PortPlan) → IsPort plan slots s p x port → is_imported x.kind ≡ false → Each JoinsService (port_join plan slots s p port)
    port_serves s p x port at present = pick port.kind refl
      where
        pick : (kind : PortKind) → port.kind ≡ kind → Each JoinsService (cond (is_sap kind) (join_of s p (service plan slots (length slots) port.protocol (slice_get slots s))) [])
        pick Frame e = tt
        pick Relay e = tt
        pick End e = tt
        pick Internal e = tt
        pick Sap e = one_join s p (record { x = x; port = port; at = at; present = present; kind_is = e }) (service plan slots (length slots) port.protocol (slice_get slots s)) (λ t is. service_is (length slots) port.protocol (slice_get slots s) t is)
        pick Spp e = tt

    ports_serve : (s p : ℕ) (x : Slot) (ports : List PortPlan) → slice_get slots s ≡ Some x → is_imported x.kind ≡ false → ((q : ℕ) → slice_get ports q ≡ slice_get (class_plan plan x.class).ports (p + q))
        → Each JoinsService (port_joins plan slots s p ports)
    unfolding port_joins
    ports_serve s p x [] slot present same = tt
    ports_serve s p x (port ∷ ports) slot present same =
        let here : p + 0 ≡ p = omega arith in
        let named : slice_get (class_plan plan x.class).ports p ≡ Some port = sym (same 0 ∙ ap (slice_get (class_plan plan x.class).ports) here) in
        each_both JoinsService (port_join plan slots s p port) (port_joins plan slots s (p + 1) ports) (port_serves s p x port (record { slot = slot; named = named }) present)
        (ports_serve s (p + 1) x ports slot present (λ q. same (suc q) ∙ (let e : p + suc q ≡ (p + 1) + q = omega arith in ap (slice_get (class_plan plan x.class).ports) e)))

    slot_serves : (s : ℕ) (x : Slot) → slice_get slots s ≡ Some x → Each JoinsService (port_joins plan slots s 0 (inside_of plan (Some x)).ports)
    unfolding port_joins
    slot_serves s x slot = pick (is_imported x.kind) refl
      where
        pick : (b : Bool) → is_imported x.kind ≡ b → Each JoinsService (port_joins plan slots s 0 (cond b no_class (class_plan plan x.class)).ports)
        pick true e = tt
        pick false e = ports_serve s 0 x (class_plan plan x.class).ports slot e (λ q. let z : q ≡ 0 + q = omega arith in ap (slice_get (class_plan plan x.class).ports) z)

    slots_serve : (s : ℕ) (xs : List Slot) → ((q : ℕ) → slice_get xs q ≡ slice_get slots (s + q)) → Each JoinsService (slot_joins plan slots s xs)
    unfolding slot_joins
    slots_serve s [] same = tt
    slots_serve s (x ∷ xs) same =
        let here : s + 0 ≡ s = omega arith in
        let slot : slice_get slots s ≡ Some x = sym (same 0 ∙ ap (slice_get slots) here) in
        each_both JoinsService (port_joins plan slots s 0 (inside_of plan (Some x)).ports) (slot_joins plan slots (s + 1) xs) (slot_serves s x slot)
        (slots_serve (s + 1) xs (λ q. same (suc q) ∙ (let e : s + suc q ≡ (s + 1) + q = omega arith in ap (slice_get slots) e)))

    pub joins_serve : Each JoinsService (layer_joins plan slots)
    joins_serve = slots_serve 0 slots (λ q. let z : q ≡ 0 + q = omega arith in ap (slice_get slots) z)
