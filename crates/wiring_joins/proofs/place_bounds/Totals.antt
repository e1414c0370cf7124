-- A structure within the limits has few places: no more than 458,751 at each slot.
use Rattle.std.proofs.Common.{◌≡◌, ◌∙◌, ℕ, zero, suc, ◌+◌, ◌*◌, ◌^◌, ◌<◌, ◌≤◌, Bool, true, false, cond, ◌==◌, List, [], ◌∷◌, length, length-append, sum, Option, Some, None, slice_get, refl, sym, ap, subst, arith}
use Rattle.std.specs.List.{sum_by}
use Rattle.std.proofs.lemmas.List.Sums.{sum_by-cons, sum_by-append}
use Rattle.room_kinds.specs.Structure.{is_imported}
use Rattle.room_kinds.specs.declared.structure.PortKind.{PortKind}
use Rattle.room_kinds.specs.declared.structure.PortKind.TheVariants.{Frame, Relay, End, Internal, Sap, Spp}
use Rattle.room_kinds.specs.declared.structure.ReferenceKind.{ReferenceKind}
use Rattle.room_kinds.specs.declared.structure.ReferenceKind.TheVariants as kinds
use Rattle.room_wiring.specs.declared.slot.Slot.{Slot}
use Rattle.wiring_plan.specs.declared.structure_plan.plan.PlacesPlan.{PlacesPlan}
use Rattle.wiring_plan.specs.declared.structure_plan.plan.PlacesPlan.TheVariants.{One, Number, Any}
use Rattle.wiring_plan.specs.declared.structure_plan.plan.PortPlan.{PortPlan}
use Rattle.wiring_plan.specs.declared.structure_plan.plan.ClassPlan.{ClassPlan}
use Rattle.wiring_plan.specs.declared.structure_plan.plan.StructurePlan.{StructurePlan}
use Rattle.number_graphs.specs.face_chains.Chains.{AreBelow}
use Rattle.wiring_slots.specs.slot_tree.Places.{counted, counted_at, slot_places, has_too_many_places}
use Rattle.wiring_places.specs.declared.place_rules.place.LayerJoin.{LayerJoin}
use Rattle.wiring_places.specs.declared.place_rules.stretch.Supply.{Supply}
use Rattle.wiring_places.specs.declared.place_rules.stretch.Supply.TheVariants.{Limited, Growing}
use Rattle.wiring_places.specs.place_rules.Parts.{class_plan, no_class, inside_of, container_class, container_of, HasFewPorts}
use Rattle.wiring_places.specs.place_rules.Stretches.{take_more, taken_from, none_taken, all_taken}
use Rattle.wiring_places.specs.place_rules.Counts.{place_count, served_at, service_key, counts_of_ports, counts_of_slots}
use Rattle.wiring_places.specs.place_rules.Layers.{is_sap, join_of, port_joins, slot_joins, service, layer_joins}
use Rattle.wiring_joins.specs.joined_places.Wired.{counts_in, pairs_in, HasFewPlaces}
use Rattle.wiring_joins.specs.place_faces.SlotsOf.{AreSlotsOf}
use Rattle.wiring_joins.proofs.place_bounds.Rows.{grown, grown_from, grown_below, grown_taken}
use Rattle.wiring_joins.proofs.place_bounds.Free.{of_own, of_inner, free}
use Rattle.wiring_joins.proofs.place_bounds.Grown.{none_grown, side_few, own_few, inner_few}
use Rattle.wiring_joins.proofs.place_bounds.Slots.{slot_counts, one_counts, all_count, free_few}

-- ---- service access points

-- each takes one place of a service provision point
abbrev growing : PortPlan → Supply
growing port = Growing

served_next : (j : LayerJoin) (js : List LayerJoin) (key : ℕ) → served_at (j ∷ js) key ≤ take_more (served_at js) (service_key j.spp_slot j.spp) 1 key
served_next j js key =
    let all = sum_by-cons (λ (i : LayerJoin). cond (key == service_key i.spp_slot i.spp) 1 0) j js in
    let here = pick (key == service_key j.spp_slot j.spp) in
    omega (arith, all, here)
  where
    pick : (b : Bool) → cond b 1 0 + served_at js key ≤ cond b (served_at js key + 1) (served_at js key)
    pick true = omega arith
    pick false = omega arith

served_row : (joins : List LayerJoin) (k : ℕ) (ports : List PortPlan) → grown_from growing (served_at joins) k ports ≤ length joins
served_row [] k ports =
    let below = grown_below growing (served_at []) none_taken (λ side. omega arith) k ports in
    let none = none_grown growing k ports in
    omega (arith, below, none)
served_row (j ∷ js) k ports =
    let key = service_key j.spp_slot j.spp in
    let next = grown_below growing (served_at (j ∷ js)) (take_more (served_at js) key 1) (served_next j js) k ports in
    let one = grown_taken growing (served_at js) key 1 k ports in
    let more = served_row js k ports in
    omega (arith, next, one, more)

module _ (plan : StructurePlan) (slots : List Slot) where
  one_join : (s p : ℕ) (kind : ReferenceKind) → is_imported kind ≡ false → (port : PortPlan) (to : Option (ℕ × ℕ)) → length (cond (is_sap port.kind) (join_of s p to) []) ≤ counted_at kind port
  one_join s p kind present port to = by_kind kind present port.kind port.places port.protocol to
    where
      go : (of : PortKind) (places : PlacesPlan) (protocol : Option ℕ) (to : Option (ℕ × ℕ)) → (let q : PortPlan = record { kind = of; places = places; protocol = protocol } in length (cond (is_sap of) (join_of s p to) []) ≤ counted q)
      go Frame places protocol to = omega arith
      go Relay places protocol to = omega arith
      go End places protocol to = omega arith
      go Internal places protocol to = omega arith
      go Sap places protocol None = omega arith
      go Sap places protocol (Some t) = omega arith
      go Spp places protocol to = omega arith

      by_kind : (kind : ReferenceKind) → is_imported kind ≡ false → (of : PortKind) (places : PlacesPlan) (protocol : Option ℕ) (to : Option (ℕ × ℕ)) → (let q : PortPlan = record { kind = of; places = places; protocol = protocol } in length (cond (is_sap of) (join_of s p to) []) ≤ counted_at kind q)
      by_kind kinds.Fixed h of places protocol to = go of places protocol to
      by_kind kinds.Optional h of places protocol to = go of places protocol to
      by_kind kinds.Imported h of places protocol to = absurd cc

  ports_join : (kind : ReferenceKind) → is_imported kind ≡ false → (s p : ℕ) (ports : List PortPlan) → length (port_joins plan slots s p ports) ≤ sum_by (counted_at kind) ports
  unfolding port_joins
  ports_join kind present s p [] = omega arith
  ports_join kind present s p (port ∷ ports) =
      let here = one_join s p kind present port (service plan slots (length slots) port.protocol (slice_get slots s)) in
      let more = ports_join kind present s (p + 1) ports in
      let both = length-append (cond (is_sap port.kind) (join_of s p (service plan slots (length slots) port.protocol (slice_get slots s))) []) (port_joins plan slots s (p + 1) ports) in
      omega (arith, here, more, both, sum_by-cons (counted_at kind) port ports)

  slot_join : (s : ℕ) (x : Slot) → length (port_joins plan slots s 0 (inside_of plan (Some x)).ports) ≤ slot_places plan x
  unfolding port_joins
  slot_join s x = pick (is_imported x.kind) refl
    where
      pick : (b : Bool) → is_imported x.kind ≡ b → length (port_joins plan slots s 0 (cond b no_class (class_plan plan x.class)).ports) ≤ slot_places plan x
      pick true e = omega arith
      pick false e = let few = ports_join x.kind e s 0 (class_plan plan x.class).ports in let counts = slot_counts plan x in omega (arith, few, counts)

  slots_join : (s : ℕ) (xs : List Slot) → length (slot_joins plan slots s xs) ≤ sum_by (slot_places plan) xs
  unfolding slot_joins
  slots_join s [] = omega arith
  slots_join s (x ∷ xs) =
      let here = slot_join s x in
      let more = slots_join (s + 1) xs in
      let both = length-append (port_joins plan slots s 0 (inside_of plan (Some x)).ports) (slot_joins plan slots (s + 1) xs) in
      omega (arith, here, more, both, sum_by-cons (slot_places plan) x xs)

-- ---- the places of a port

any_grown : (b : Bool) (t : ℕ) → grown (cond b Growing (Limited 0)) t ≡ t
any_grown true t = refl
any_grown false t = refl

-- A port has a place, or as many as are counted of it, or those that bindings and service access points give it.
port_few : (kind : ReferenceKind) (count outside inside served : ℕ) (port : PortPlan) → place_count (is_imported kind) port.kind port.places outside inside served ≤ (1 + counted_at kind port) + (grown (of_inner count port) outside + (grown (of_own port) inside + served))
port_few kind count outside inside served port = go port.kind kind port.places port.protocol
  where
    go : (of : PortKind) (kind : ReferenceKind) (places : PlacesPlan) (protocol : Option ℕ)
        → (let q : PortPlan = record { kind = of; places = places; protocol = protocol } in place_count (is_imported kind) of places outside inside served ≤ (1 + counted_at kind q) + (grown (of_inner count q) outside + (grown (of_own q) inside + served)))
    go Frame kind places protocol = omega arith
    go Relay kinds.Fixed One protocol = omega arith
    go Relay kinds.Fixed (Number n) protocol = omega arith
    go Relay kinds.Fixed Any protocol = omega arith
    go Relay kinds.Optional One protocol = omega arith
    go Relay kinds.Optional (Number n) protocol = omega arith
    go Relay kinds.Optional Any protocol = omega arith
    go Relay kinds.Imported One protocol = omega arith
    go Relay kinds.Imported (Number n) protocol = omega arith
    go Relay kinds.Imported Any protocol = omega arith
    go End kinds.Fixed One protocol = omega arith
    go End kinds.Fixed (Number n) protocol = omega arith
    go End kinds.Fixed Any protocol = let any = any_grown (count == 1) outside in omega (arith, any)
    go End kinds.Optional One protocol = omega arith
    go End kinds.Optional (Number n) protocol = omega arith
    go End kinds.Optional Any protocol = let any = any_grown (count == 1) outside in omega (arith, any)
    go End kinds.Imported One protocol = omega arith
    go End kinds.Imported (Number n) protocol = omega arith
    go End kinds.Imported Any protocol = let any = any_grown (count == 1) outside in omega (arith, any)
    go Internal kinds.Fixed One protocol = omega arith
    go Internal kinds.Fixed (Number n) protocol = omega arith
    go Internal kinds.Fixed Any protocol = omega arith
    go Internal kinds.Optional One protocol = omega arith
    go Internal kinds.Optional (Number n) protocol = omega arith
    go Internal kinds.Optional Any protocol = omega arith
    go Internal kinds.Imported places protocol = omega arith
    go Sap kinds.Fixed places protocol = omega arith
    go Sap kinds.Optional places protocol = omega arith
    go Sap kinds.Imported places protocol = omega arith
    go Spp kinds.Fixed places protocol = omega arith
    go Spp kinds.Optional places protocol = omega arith
    go Spp kinds.Imported places protocol = omega arith

module _ (kind : ReferenceKind) (count : ℕ) (outside inside served : ℕ → ℕ) (s reference : ℕ) where
  ports_few : (p k l : ℕ) (ports : List PortPlan) → k ≡ (reference + 1) * 65536 + p → l ≡ service_key s p
      → sum (counts_of_ports outside inside served s (is_imported kind) reference p ports) ≤ (length ports + sum_by (counted_at kind) ports) + (grown_from (of_inner count) outside k ports + (grown_from of_own inside p ports + grown_from growing served l ports))
  unfolding counts_of_ports grown_from
  ports_few p k l [] ek el = omega arith
  ports_few p k l (port ∷ ports) ek el =
      let here = port_few kind count (outside ((reference + 1) * 65536 + p)) (inside p) (served (service_key s p)) port in
      let at_outside = ap (λ n. grown (of_inner count port) (outside n)) ek in
      let at_served = ap served el in
      let more = ports_few (p + 1) (k + 1) (l + 1) ports (omega (arith, ek)) (omega (arith, el)) in
      let counts = sum_by-cons (λ (n : ℕ). n) (place_count (is_imported kind) port.kind port.places (outside ((reference + 1) * 65536 + p)) (inside p) (served (service_key s p))) (counts_of_ports outside inside served s (is_imported kind) reference (p + 1) ports) in
      omega (arith, here, at_outside, at_served, more, counts, sum_by-cons (counted_at kind) port ports)

-- ---- all places

nothing_taken : (plan : StructurePlan) → all_taken plan no_class ≡ none_taken
unfolding taken_from
nothing_taken plan = refl

module _ (plan : StructurePlan) (slots : List Slot) (are : AreSlotsOf plan slots) (few_ports : HasFewPorts plan) (within : has_too_many_places plan slots ≡ false) where
  abbrev joins : List LayerJoin
  joins = layer_joins plan slots

  -- no more places of a side are taken
  pub few_taken : (c side : ℕ) → all_taken plan (container_class plan slots c) side ≤ 131072
  few_taken c side =
      let most = side_few plan (container_class plan slots c) side in
      let room = free_few plan slots are within c in
      omega (arith, most, room)

  container_ports : (c : ℕ) → length (container_class plan slots c).ports ≤ 65535
  container_ports zero = let none = ap length are.no_ports in omega (arith, none)
  container_ports (suc s) = by_slot (slice_get slots s)
    where
      by_import : (x : Slot) (b : Bool) → length (cond b no_class (class_plan plan x.class)).ports ≤ 65535
      by_import x true = omega arith
      by_import x false = few_ports x.class

      by_slot : (found : Option Slot) → length (inside_of plan found).ports ≤ 65535
      by_slot None = omega arith
      by_slot (Some x) = by_import x (is_imported x.kind)

  module _ (s : ℕ) (x : Slot) (slot : slice_get slots s ≡ Some x) where
    inner_grown : (count : ℕ) × (grown_from (of_inner count) (all_taken plan (container_class plan slots (container_of x))) ((x.reference + 1) * 65536) (class_plan plan x.class).ports ≤ 131072)
    inner_grown =
        let stands = are.stands s x slot in
        let c = container_of x in
        let count = stands.reference.count in
        let class = container_class plan slots c in
        let few = inner_few plan class few_ports (container_ports c) x.reference stands.reference stands.named in
        let same = ap (λ k. grown_from (of_inner count) (all_taken plan class) ((x.reference + 1) * 65536) (class_plan plan k).ports) stands.class in
        let room = free_few plan slots are within c in
        (count, omega (arith, few, same, room))

    inside : container_class plan slots (s + 1) ≡ inside_of plan (Some x)
    inside =
        let e : suc s ≡ s + 1 = omega arith in
        let Q : ℕ → Type 0 = λ c. container_class plan slots c ≡ inside_of plan (Some x) in subst Q e (ap (inside_of plan) slot)

    abbrev Few : ClassPlan → Type 0
    Few class = grown_from of_own (all_taken plan class) 0 (class_plan plan x.class).ports ≤ 131072

    own_grown : Few (container_class plan slots (s + 1))
    own_grown = pick (is_imported x.kind) inside
      where
        pick : (b : Bool) → container_class plan slots (s + 1) ≡ cond b no_class (class_plan plan x.class) → Few (container_class plan slots (s + 1))
        pick true is =
            let none = none_grown of_own 0 (class_plan plan x.class).ports in
            let nothing = ap (λ (taken : ℕ → ℕ). grown_from of_own taken 0 (class_plan plan x.class).ports) (nothing_taken plan) in
            subst Few (sym is) (omega (arith, none, nothing))
        pick false is =
            let few = own_few plan (class_plan plan x.class) (few_ports x.class) in
            let room = subst (λ (class : ClassPlan). free plan class none_taken ≤ 131072) is (free_few plan slots are within (s + 1)) in
            subst Few (sym is) (omega (arith, few, room))

    slot_few : sum (counts_of_ports (all_taken plan (container_class plan slots (container_of x))) (all_taken plan (container_class plan slots (s + 1))) (served_at joins) s (is_imported x.kind) x.reference 0 (class_plan plan x.class).ports) ≤ 458751
    slot_few =
        let ports = (class_plan plan x.class).ports in
        let inner = inner_grown in
        let all = ports_few x.kind inner.0 (all_taken plan (container_class plan slots (container_of x))) (all_taken plan (container_class plan slots (s + 1))) (served_at joins) s x.reference 0 ((x.reference + 1) * 65536) (s * 65536) ports (omega arith) (omega arith) in
        let many = few_ports x.class in
        let counts = slot_counts plan x in
        let one = one_counts (slot_places plan) slots s x slot in
        let limit = all_count plan slots within in
        let own = own_grown in
        let served = served_row joins (s * 65536) ports in
        let joined = slots_join plan slots 0 slots in
        omega (arith, all, many, counts, one, limit, inner.1, own, served, joined)

  slots_few : (s : ℕ) (xs : List Slot) → ((j : ℕ) (x : Slot) → slice_get xs j ≡ Some x → slice_get slots (s + j) ≡ Some x) → sum (counts_of_slots plan slots joins s xs) ≤ length xs * 458751
  unfolding counts_of_slots
  slots_few s [] at = omega arith
  slots_few s (x ∷ xs) at =
      let zeroth : s + 0 ≡ s = omega arith in
      let here = slot_few s x (ap (slice_get slots) (sym zeroth) ∙ at 0 x refl) in
      let more = slots_few (s + 1) xs (λ j y e. let next : s + suc j ≡ (s + 1) + j = omega arith in ap (slice_get slots) (sym next) ∙ at (suc j) y e) in
      let both = sum_by-append (λ (n : ℕ). n) (counts_of_ports (all_taken plan (container_class plan slots (container_of x))) (all_taken plan (container_class plan slots (s + 1))) (served_at joins) s (is_imported x.kind) x.reference 0 (class_plan plan x.class).ports) (counts_of_slots plan slots joins (s + 1) xs) in
      omega (arith, here, more, both)

  few_places : length slots ≤ 4096 → sum (counts_in plan slots) < 2 ^ 31
  unfolding counts_in
  few_places few =
      let all = slots_few 0 slots (λ j x e. let at : j ≡ 0 + j = omega arith in ap (slice_get slots) (sym at) ∙ e) in
      omega (arith, all, few)

  -- the structure has few places
  pub has_few_places : length slots ≤ 4096 → AreBelow (2 * sum (counts_in plan slots)) (pairs_in plan slots) → HasFewPlaces plan slots
  has_few_places few below = record {
    taken = λ c side. let most = few_taken c side in omega (arith, most);
    few = few_places few;
    below = below;
  }
