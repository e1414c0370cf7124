-- In the wiring of a model that keeps all rules and has no fault partners are each other's, and who may have
-- to know of a slot is told of it.
use Rattle.std.proofs.Common.{◌≡◌, ◌≢◌, ◌∙◌, ℕ, zero, suc, ◌+◌, ◌*◌, ◌<◌, ◌==◌, ◌&&◌, nat_lt, Bool, true, false, not, if◌then◌else◌, List, [], ◌∷◌, length, Option, Some, None, slice_get, slice_index, slice_index_or, option_and_then, refl, sym, ap, subst, arith, inl, inr, eq-eqb}
use Rattle.std.specs.List.{sum}
use Rattle.std.specs.Option.{option_map_or}
use Rattle.std.proofs.lemmas.Bool.{and_from}
use Rattle.std.proofs.lemmas.Bool.Decides.{nat_tests}
use Rattle.std.proofs.lemmas.Option.{same_Some, slice_get_cases, slice_get_within, get_or_from_slice_get}
use Rattle.room_kinds.specs.declared.numbers.SlotId.{SlotId}
use Rattle.room_kinds.specs.declared.structure.PortKind.{PortKind}
use Rattle.room_kinds.specs.declared.structure.PortKind.TheVariants as ports
use Rattle.room_kinds.specs.declared.structure.ReferenceKind.{ReferenceKind}
use Rattle.room_kinds.specs.declared.structure.ReferenceKind.TheVariants as kinds
use Rattle.room_kinds.specs.Structure.{is_imported}
use Rattle.room_ast.specs.Trees.{ModelTree}
use Rattle.room_wiring.specs.declared.names.ClassNames.{ClassNames}
use Rattle.room_wiring.specs.declared.slot.Slot.{Slot}
use Rattle.room_wiring.specs.declared.slot.Partner.{Partner}
use Rattle.room_wiring.specs.declared.slot.Partner.TheVariants as partners
use Rattle.room_wiring.specs.declared.tables.Tables.{Tables}
use Rattle.room_wiring.specs.declared.tables.PlaceSpan.{PlaceSpan}
use Rattle.room_wiring.specs.Slots.{slot_at, class_at, class_of}
use Rattle.room_wiring.specs.Places.{port_count, span_at, place_count, partner_at, is_told}
use Rattle.number_graphs.specs.face_chains.Chains.{AreBelow}
use Rattle.number_graphs.specs.face_matchings.Offsets.{offset}
use Rattle.structure_check.specs.Rules.{first_broken}
use Rattle.structure_check.specs.List.{all_rules}
use Rattle.structure_check.proofs.KeptRules.{all_few}
use Rattle.wiring_plan.proofs.port_counts.PortCounts.{ports_counted}
use Rattle.wiring_plan.specs.structure_plan.Plans.{plan_of}
use Rattle.wiring_plan.specs.declared.structure_plan.plan.ClassPlan.{ClassPlan}
use Rattle.wiring_plan.specs.declared.structure_plan.plan.PortPlan.{PortPlan}
use Rattle.wiring_plan.specs.declared.structure_plan.plan.StructurePlan.{StructurePlan}
use Rattle.wiring_slots.specs.model_slots.Answers.{slots_in}
use Rattle.wiring_places.specs.declared.place_rules.place.LayerJoin.{LayerJoin}
use Rattle.wiring_places.specs.declared.place_rules.place.Place.{Place}
use Rattle.wiring_places.specs.declared.place_rules.place.Role.{Role}
use Rattle.wiring_places.specs.declared.place_rules.place.Role.TheVariants as roles
use Rattle.wiring_places.specs.place_rules.Parts.{class_plan, no_class}
use Rattle.wiring_places.specs.place_rules.Counts.{counts, spans_from, first_ports_from, span_of}
use Rattle.wiring_places.specs.place_rules.Layers.{layer_joins}
use Rattle.wiring_places.specs.place_rules.Partners.{role_of, is_relay_role, is_end_role, across_places, partner_of_role, lets_tell, any_joined, owner_of as owner_by}
use Rattle.wiring_joins.specs.place_joins.Joined.{IsJoined}
use Rattle.wiring_joins.specs.joined_places.Wired.{counts_in, spans_in, places_in, pairs_in}
use Rattle.wiring_joins.proofs.join_laws.Looks.{fails_at}
use Rattle.wiring_joins.proofs.joined_places.Counted.{places_counted}
use Rattle.wiring_joins.proofs.place_faces.Rows.{IsPort, own_count, row_of, span_is, place_is}
use Rattle.wiring_joins.proofs.place_joins.AcrossLaw.{across_is_involution}
use Rattle.binding_expand.proofs.Kept.{known, finite, layers}
use Rattle.binding_expand.proofs.pair_laws.Models.{model_paired_once}
use Rattle.binding_expand.specs.Wirings.{places_of, pairs_of, IsWiringOf}
use Rattle.binding_expand.specs.Faults.{HasNoFault}
use Rattle.binding_expand.specs.declared.fault.WiringFault.TheVariants as faults
use Rattle.actor_duties.specs.Words.{is_imported_kind, is_imported as is_imported_slot, owner_of as owner_in, is_joined, joined_at}
use Rattle.law_agreement.specs.Imports.{OwnersAreThere}
use Rattle.law_agreement.specs.Mutual.{seen_as}
use Rattle.law_models.proofs.settled_models.Chains.{leads_back}
use Rattle.law_models.proofs.settled_models.Located.{IsAt, place_found}
use Rattle.wiring_joins.proofs.joined_places.Shown.{two_faces}

-- ---- lists

index_get : {X : Type 0} (xs : List X) (i : ℕ) (x d : X) → slice_get xs i ≡ Some x → slice_index_or xs i d ≡ x
index_get xs i x d e = get_or_from_slice_get xs i x d e

-- a list that is as long as another has an item where the other has one
as_long : {X Y : Type 0} (xs : List X) (ys : List Y) (i : ℕ) (x : X) (d : Y) → length ys ≡ length xs → slice_get xs i ≡ Some x → slice_get ys i ≡ Some (slice_index_or ys i d)
as_long [] ys i x d long e = absurd cc
as_long (x ∷ xs) [] i y d long e = absurd (omega (arith, long))
as_long (x ∷ xs) (y ∷ ys) zero z d long e = refl
as_long (x ∷ xs) (y ∷ ys) (suc i) z d long e = as_long xs ys i z d (omega (arith, long)) e

any_at : (test : Place → Partner → Bool) (places : List Place) (ps : List Partner) (i : ℕ) (x : Place) (p : Partner) → slice_get places i ≡ Some x → slice_get ps i ≡ Some p → test x p ≡ true
    → any_joined test places ps ≡ true
any_at test places ps i x p ex ep h = go (any_joined test places ps) refl
  where
    go : (b : Bool) → any_joined test places ps ≡ b → b ≡ true
    go true e = refl
    go false e = let never : true ≡ false = sym h ∙ fails_at test places ps i x p e ex ep in absurd cc

-- ---- roles

-- a place that passes nothing on, as its partner sees it
seen_by_role : (imported : Bool) (kind : PortKind) (x : Place) → is_relay_role (role_of imported kind) ≡ false
    → partner_of_role (role_of imported kind) x ≡ (if imported then partners.Socket (record { 0 = x.slot }) x.port x.place else partners.End (record { 0 = x.slot }) x.port x.place)
seen_by_role true kind x e = refl
seen_by_role false ports.Frame x e = refl
seen_by_role false ports.Relay x e = absurd cc
seen_by_role false ports.End x e = refl
seen_by_role false ports.Internal x e = refl
seen_by_role false ports.Sap x e = refl
seen_by_role false ports.Spp x e = refl

-- it is an end place where its slot isn't imported
end_by_role : (imported : Bool) (kind : PortKind) → is_relay_role (role_of imported kind) ≡ false → imported ≡ false → role_of imported kind ≡ roles.End
end_by_role true kind e f = absurd cc
end_by_role false ports.Frame e f = refl
end_by_role false ports.Relay e f = absurd cc
end_by_role false ports.End e f = refl
end_by_role false ports.Internal e f = refl
end_by_role false ports.Sap e f = refl
end_by_role false ports.Spp e f = refl

-- a socket's slot is imported
socket_by_role : (imported : Bool) (kind : PortKind) → role_of imported kind ≡ roles.Socket → imported ≡ true
socket_by_role true kind e = refl
socket_by_role false ports.Frame e = absurd cc
socket_by_role false ports.Relay e = absurd cc
socket_by_role false ports.End e = absurd cc
socket_by_role false ports.Internal e = absurd cc
socket_by_role false ports.Sap e = absurd cc
socket_by_role false ports.Spp e = absurd cc

same_kinds : (k : ReferenceKind) → is_imported k ≡ is_imported_kind k
same_kinds kinds.Fixed = refl
same_kinds kinds.Optional = refl
same_kinds kinds.Imported = refl

-- which place a partner is
pub record IsPartner (y : Place) (role : Role) (x : SlotId) (q j : ℕ) : Type 0 where
  pub is : y.role ≡ role
  pub slot : y.slot ≡ x.0
  pub port : y.port ≡ q
  pub place : y.place ≡ j

end_partner : (r : Role) (y : Place) (x : SlotId) (q j : ℕ) → y.role ≡ r → partner_of_role r y ≡ partners.End x q j → IsPartner y roles.End x q j
end_partner roles.Relay y x q j is e = absurd cc
end_partner roles.End y x q j is e =
    let made : SlotId = record { 0 = y.slot } in
    let same : made ≡ x = cc in
    record { is = is; slot = ap (λ (s : SlotId). s.0) same; port = cc; place = cc }
end_partner roles.Socket y x q j is e = absurd cc

socket_partner : (r : Role) (y : Place) (x : SlotId) (q j : ℕ) → y.role ≡ r → partner_of_role r y ≡ partners.Socket x q j → IsPartner y roles.Socket x q j
socket_partner roles.Relay y x q j is e = absurd cc
socket_partner roles.End y x q j is e = absurd cc
socket_partner roles.Socket y x q j is e =
    let made : SlotId = record { 0 = y.slot } in
    let same : made ≡ x = cc in
    record { is = is; slot = ap (λ (s : SlotId). s.0) same; port = cc; place = cc }

module _ (m : ModelTree) (t : Tables) (keeps : first_broken all_rules m ≡ None) (w : IsWiringOf m t) (flawless : HasNoFault m) where
  abbrev plan : StructurePlan
  plan = plan_of m

  abbrev slots : List Slot
  slots = slots_in m

  abbrev joins : List LayerJoin
  joins = layer_joins plan slots

  -- where the place at k of port p of slot s stands in the row
  abbrev pub index_of : ℕ → ℕ → ℕ → ℕ
  index_of s p k = offset (counts plan slots joins) (row_of plan slots joins s p) + k

  -- ---- where places stand

  pub slot_is : (s : ℕ) (x : Slot) → slice_get slots s ≡ Some x → slot_at t s ≡ Some x
  slot_is s x e = ap (λ l. slice_get l s) w.slots ∙ e

  pub imported_is : (s : ℕ) (x : Slot) → slice_get slots s ≡ Some x → is_imported_slot t s ≡ is_imported x.kind
  unfolding is_imported_slot
  imported_is s x e = ap (λ (o : Option Slot). option_map_or (λ (z : Slot). is_imported_kind z.kind) o false) (slot_is s x e) ∙ sym (same_kinds x.kind)

  owner_is : (s : ℕ) → owner_in t s ≡ owner_by (slice_get slots s)
  unfolding owner_in
  owner_is s = ap (λ l. option_map_or (λ (x : Slot). x.owner.0) (slice_get l s) 0) w.slots ∙ go (slice_get slots s)
    where
      go : (o : Option Slot) → option_map_or (λ (x : Slot). x.owner.0) o 0 ≡ owner_by o
      go None = refl
      go (Some x) = refl

  -- the ports of a slot are those of its class
  pub ports_are : (s : ℕ) (x : Slot) → slice_get slots s ≡ Some x → port_count t s ≡ length (class_plan plan x.class).ports
  unfolding port_count class_of
  ports_are s x e =
      ap (λ (o : Option Slot). option_map_or (λ (c : ClassNames). length c.ports) (option_and_then (λ (z : Slot). class_at t z.class) o) 0) (slot_is s x e)
      ∙ ap (λ cs. option_map_or (λ (c : ClassNames). length c.ports) (slice_get cs x.class) 0) w.classes
      ∙ ports_counted m x.class
      ∙ by_index plan.classes x.class
    where
      by_index : (cs : List ClassPlan) (n : ℕ) → option_map_or (λ (c : ClassPlan). length c.ports) (slice_get cs n) 0 ≡ length (slice_index_or cs n no_class).ports
      by_index [] n = refl
      by_index (c ∷ cs) zero = refl
      by_index (c ∷ cs) (suc n) = by_index cs n

  span_same : (s p : ℕ) → span_at t s p ≡ span_of (first_ports_from plan 0 slots) (spans_from 0 (counts plan slots joins)) s p
  unfolding span_at spans_in counts_in
  span_same s p =
      ap (λ fs. slice_index_or t.ports (slice_index fs s + p) (record { first = 0; count = 0 })) w.first_ports
      ∙ ap (λ (ss : List PlaceSpan). slice_index_or ss (slice_index (first_ports_from plan 0 slots) s + p) (record { first = 0; count = 0 })) w.ports

  count_is : (s p : ℕ) (x : Slot) (port : PortPlan) → IsPort plan slots s p x port → place_count t s p ≡ own_count plan slots joins s x p port
  unfolding place_count
  count_is s p x port of = ap (λ (z : PlaceSpan). z.count) (span_same s p) ∙ (span_is plan slots joins s x p port of).1

  first_is : (s p : ℕ) (x : Slot) (port : PortPlan) → IsPort plan slots s p x port → (span_at t s p).first ≡ offset (counts plan slots joins) (row_of plan slots joins s p)
  first_is s p x port of = ap (λ (z : PlaceSpan). z.first) (span_same s p) ∙ (span_is plan slots joins s x p port of).0

  -- a place of a port of a slot, where it stands in the row, and its partner there
  pub record IsPlace (s p k : ℕ) : Type 0 where
    pub x : Slot
    pub port : PortPlan
    pub of : IsPort plan slots s p x port
    pub below : k < own_count plan slots joins s x p port

  module _ (s p k : ℕ) (h : IsPlace s p k) where
    abbrev role_here : Role
    role_here = role_of (is_imported h.x.kind) h.port.kind

    abbrev place_here : Place
    place_here = record { slot = s; port = p; place = k; role = role_here }

    place_at : slice_get (places_of m) (index_of s p k) ≡ Some place_here
    unfolding places_in counts_in
    place_at = place_is plan slots joins s h.x p h.port k h.of h.below

    joined_is : joined_at t s p k ≡ slice_index_or t.partners (index_of s p k) partners.Nobody
    unfolding joined_at partner_at
    joined_is =
        let here = slice_get_within slots s h.x h.of.slot in
        let same_slots = ap length w.slots in
        let there = slice_get_within (class_plan plan h.x.class).ports p h.port h.of.named in
        let same_ports = ports_are s h.x h.of.slot in
        let same_count = count_is s p h.x h.port h.of in
        let below = h.below in
        let in_slots : nat_lt s (length t.slots) ≡ true = less s (length t.slots) (omega (arith, here, same_slots)) in
        let in_ports : nat_lt p (port_count t s) ≡ true = less p (port_count t s) (omega (arith, there, same_ports)) in
        let in_places : nat_lt k (place_count t s p) ≡ true = less k (place_count t s p) (omega (arith, below, same_count)) in
        rw (in_slots, in_ports, in_places) (ap (λ n. slice_index_or t.partners (n + k) partners.Nobody) (first_is s p h.x h.port h.of))
      where
        less : (a b : ℕ) → a < b → nat_lt a b ≡ true
        less a b lt = grind (arith, nat_tests)

    partner_here : slice_get t.partners (index_of s p k) ≡ Some (joined_at t s p k)
    partner_here = as_long (places_of m) t.partners (index_of s p k) place_here partners.Nobody w.partners.complete place_at ∙ ap (λ (z : Partner). Some z) (sym joined_is)

    -- a place that is joined to something passes nothing on
    no_relay : is_joined (joined_at t s p k) ≡ true → is_relay_role role_here ≡ false
    no_relay joined = go (is_relay_role role_here) refl
      where
        go : (b : Bool) → is_relay_role role_here ≡ b → b ≡ false
        go false e = refl
        go true e =
            let none : Some (joined_at t s p k) ≡ Some partners.Nobody = sym partner_here ∙ w.partners.relays (index_of s p k) place_here place_at e in
            let never : true ≡ false = sym joined ∙ ap is_joined (same_Some (joined_at t s p k) partners.Nobody none) in
            absurd cc

    seen : is_joined (joined_at t s p k) ≡ true → partner_of_role role_here place_here ≡ seen_as t s p k
    seen joined =
        seen_by_role (is_imported h.x.kind) h.port.kind place_here (no_relay joined)
        ∙ ap (λ b. if b then partners.Socket (record { 0 = s }) p k else partners.End (record { 0 = s }) p k) (sym (imported_is s h.x h.of.slot))

  -- a place that is joined to something is a place of a port
  pub joined_place : (s p k : ℕ) → is_joined (joined_at t s p k) ≡ true → IsPlace s p k
  unfolding joined_at
  joined_place s p k joined = go (nat_lt s (length t.slots)) refl (nat_lt p (port_count t s)) refl (nat_lt k (place_count t s p)) refl joined
    where
      more : (a b : ℕ) → nat_lt a b ≡ true → a < b
      more a b lt = grind (arith, nat_tests)

      at_port : (x : Slot) → slice_get slots s ≡ Some x → p < port_count t s → k < place_count t s p → IsPlace s p k
      at_port x e there few = elim (slice_get_cases (class_plan plan x.class).ports p).1 [
        | inl q ↦
            let of : IsPort plan slots s p x q.0 = record { slot = e; named = q.2 } in
            let same = count_is s p x q.0 of in
            record { x = x; port = q.0; of = of; below = omega (arith, few, same) }
        | inr q ↦ let past = q.0 in let same = ports_are s x e in absurd (omega (arith, there, past, same))
      ]

      at_slot : s < length t.slots → p < port_count t s → k < place_count t s p → IsPlace s p k
      at_slot here there few = elim (slice_get_cases slots s).1 [
        | inl x ↦ at_port x.0 x.2 there few
        | inr q ↦ let past = q.0 in let same = ap length w.slots in absurd (omega (arith, here, past, same))
      ]

      go : (a : Bool) → nat_lt s (length t.slots) ≡ a → (b : Bool) → nat_lt p (port_count t s) ≡ b → (c : Bool) → nat_lt k (place_count t s p) ≡ c
          → is_joined (if a && b && c then partner_at t s p k else partners.Nobody) ≡ true → IsPlace s p k
      go true here true there true few j = at_slot (more s (length t.slots) here) (more p (port_count t s) there) (more k (place_count t s p) few)
      go true here true there false few j = absurd cc
      go true here false there c few j = absurd cc
      go false here b there c few j = absurd cc

  -- ---- joined places

  all_faces : 2 * sum (counts plan slots joins) ≡ length (across_places (places_of m))
  unfolding counts_in
  all_faces =
      let many : length (places_of m) ≡ sum (counts plan slots joins) = places_counted plan slots in
      ap (λ n. 2 * n) (sym many) ∙ sym (two_faces 0 (places_of m))

  pairs_below : AreBelow (length (across_places (places_of m))) (pairs_of m)
  unfolding pairs_in spans_in counts_in
  pairs_below = subst (λ n. AreBelow n (pairs_of m)) all_faces (model_paired_once m (known m keeps) (finite m keeps) (layers m keeps) (all_few m keeps)).1

  joined_back : (i j : ℕ) → IsJoined (places_of m) (pairs_of m) i j → IsJoined (places_of m) (pairs_of m) j i
  joined_back i j l = leads_back (across_places (places_of m)) (pairs_of m) (across_is_involution (places_of m)) pairs_below (2 * i) (2 * j) l

  -- what a place is joined to: another place of a port, which is joined to it
  pub record IsJoinedTo (s p k : ℕ) (partner : Partner) : Type 0 where
    pub y : Place
    pub here : IsPlace s p k
    pub there : IsPlace y.slot y.port y.place
    pub role : y.role ≡ role_of (is_imported there.x.kind) there.port.kind
    pub passes : is_relay_role (role_of (is_imported here.x.kind) here.port.kind) ≡ false
    pub at : slice_get (places_of m) (index_of y.slot y.port y.place) ≡ Some y
    pub is : partner ≡ partner_of_role y.role y
    pub joined : IsJoined (places_of m) (pairs_of m) (index_of s p k) (index_of y.slot y.port y.place)
    pub back : joined_at t y.slot y.port y.place ≡ seen_as t s p k

  found_place : (i : ℕ) (y : Place) → slice_get (places_of m) i ≡ Some y → IsAt plan slots joins i y
  unfolding places_in counts_in
  found_place i y e = place_found plan slots joins i y e

  joined_to : (s p k : ℕ) → is_joined (joined_at t s p k) ≡ true → IsJoinedTo s p k (joined_at t s p k)
  joined_to s p k joined =
      let h = joined_place s p k joined in
      let passes = no_relay s p k h joined in
      let i = index_of s p k in
      let some : slice_get t.partners i ≢ Some partners.Nobody =
      λ none. absurd (let never : true ≡ false = sym joined ∙ ap is_joined (same_Some (joined_at t s p k) partners.Nobody (sym (partner_here s p k h) ∙ none)) in cc) in
      let found = w.partners.joined.found i (place_here s p k h) (place_at s p k h) passes some in
      let y : Place = found.1 in
      let of = found_place found.0 y found.2 in
      let there : IsPlace y.slot y.port y.place = record { x = of.x; port = of.port; of = of.of; below = of.below } in
      let same : found.0 ≡ index_of y.slot y.port y.place = of.at in
      let at : slice_get (places_of m) (index_of y.slot y.port y.place) ≡ Some y = ap (slice_get (places_of m)) (sym same) ∙ found.2 in
      let one : y ≡ place_here y.slot y.port y.place there = same_Some y (place_here y.slot y.port y.place there) (sym at ∙ place_at y.slot y.port y.place there) in
      let partner : joined_at t s p k ≡ partner_of_role y.role y = same_Some (joined_at t s p k) (partner_of_role y.role y) (sym (partner_here s p k h) ∙ found.5) in
      let leads : IsJoined (places_of m) (pairs_of m) i (index_of y.slot y.port y.place) = subst (IsJoined (places_of m) (pairs_of m) i) same found.4 in
      let told = w.partners.joined.joined (index_of y.slot y.port y.place) i y (place_here s p k h) at (place_at s p k h) found.3 passes (joined_back i (index_of y.slot y.port y.place) leads) in
      let back : joined_at t y.slot y.port y.place ≡ seen_as t s p k =
      same_Some (joined_at t y.slot y.port y.place) (partner_of_role (role_here s p k h) (place_here s p k h)) (sym (partner_here y.slot y.port y.place there) ∙ told) ∙ seen s p k h joined in
      record { y = y; here = h; there = there; role = ap (λ (z : Place). z.role) one; passes = passes; at = at; is = partner; joined = leads; back = back }

  -- ---- what partners are

  -- a place that is joined to an end place
  pub record JoinsEnd (s p k : ℕ) (role : Role) (x : SlotId) (q j : ℕ) : Type 0 where
    pub to : IsJoinedTo s p k (joined_at t s p k)
    pub partner : IsPartner to.y role x q j
    pub back : joined_at t x.0 q j ≡ seen_as t s p k

  at_partner : (s p k : ℕ) (role : Role) (x : SlotId) (q j : ℕ) (to : IsJoinedTo s p k (joined_at t s p k)) → IsPartner to.y role x q j → JoinsEnd s p k role x q j
  at_partner s p k role x q j to is =
      record {
        to = to;
        partner = is;
        back = ap (λ n. joined_at t n q j) (sym is.slot) ∙ ap (λ n. joined_at t to.y.slot n j) (sym is.port) ∙ ap (λ n. joined_at t to.y.slot to.y.port n) (sym is.place) ∙ to.back;
      }

  pub joins_end : (s p k : ℕ) (x : SlotId) (q j : ℕ) → joined_at t s p k ≡ partners.End x q j → JoinsEnd s p k roles.End x q j
  joins_end s p k x q j e =
      let to = joined_to s p k (ap is_joined e) in
      at_partner s p k roles.End x q j to (end_partner to.y.role to.y x q j refl (sym to.is ∙ e))

  pub joins_socket : (s p k : ℕ) (x : SlotId) (q j : ℕ) → joined_at t s p k ≡ partners.Socket x q j → JoinsEnd s p k roles.Socket x q j
  joins_socket s p k x q j e =
      let to = joined_to s p k (ap is_joined e) in
      at_partner s p k roles.Socket x q j to (socket_partner to.y.role to.y x q j refl (sym to.is ∙ e))

  -- the slot of a socket is imported
  pub socket_imported : (s p k : ℕ) (x : SlotId) (q j : ℕ) → joined_at t s p k ≡ partners.Socket x q j → is_imported_slot t x.0 ≡ true
  socket_imported s p k x q j e =
      let h = joins_socket s p k x q j e in
      let there = h.to.there in
      ap (is_imported_slot t) (sym h.partner.slot) ∙ imported_is h.to.y.slot there.x there.of.slot
      ∙ socket_by_role (is_imported there.x.kind) there.port.kind (sym h.to.role ∙ h.partner.is)

  -- what is joined to a socket has its slot's owner
  pub socket_local : (s p k : ℕ) (x : SlotId) (q j : ℕ) → joined_at t s p k ≡ partners.Socket x q j → owner_in t x.0 ≡ owner_in t s
  socket_local s p k x q j e = by_kind (joins_socket s p k x q j e)
    where
      socket_role : (b : Bool) → b ≡ true → (kind : PortKind) → role_of b kind ≡ roles.Socket
      socket_role true f kind = refl
      socket_role false f kind = absurd cc

      one : (a b : ℕ) → (a == b) ≡ true → a ≡ b
      one a b g = grind (arith, nat_tests)

      apart : (a b : ℕ) → (a == b) ≡ false → a ≡ b → ⊥
      apart a b g same = let never : true ≡ false = sym (eq-eqb a b same) ∙ g in cc

      by_owner : (h : JoinsEnd s p k roles.Socket x q j) → is_imported h.to.here.x.kind ≡ false → (c : Bool) → (owner_in t x.0 == owner_in t s) ≡ c → owner_in t x.0 ≡ owner_in t s
      by_owner h f true g = one (owner_in t x.0) (owner_in t s) g
      by_owner h f false g =
          absurd (flawless faults.SocketAway (record {
            joins = record {
              i = index_of s p k;
              j = index_of h.to.y.slot h.to.y.port h.to.y.place;
              place = place_here s p k h.to.here;
              socket = h.to.y;
              place_at = place_at s p k h.to.here;
              socket_at = h.to.at;
              place_role = end_by_role (is_imported h.to.here.x.kind) h.to.here.port.kind h.to.passes f;
              socket_role = h.partner.is;
              joined = h.to.joined;
            };
            away = λ same. apart (owner_in t x.0) (owner_in t s) g (ap (owner_in t) (sym h.partner.slot) ∙ owner_is h.to.y.slot ∙ sym same ∙ sym (owner_is s));
          }))

      by_imported : (h : JoinsEnd s p k roles.Socket x q j) → (b : Bool) → is_imported h.to.here.x.kind ≡ b → owner_in t x.0 ≡ owner_in t s
      by_imported h true f =
          absurd (flawless faults.SocketPair (record {
            i = index_of s p k;
            j = index_of h.to.y.slot h.to.y.port h.to.y.place;
            place = place_here s p k h.to.here;
            socket = h.to.y;
            place_at = place_at s p k h.to.here;
            socket_at = h.to.at;
            place_role = socket_role (is_imported h.to.here.x.kind) f h.to.here.port.kind;
            socket_role = h.partner.is;
            joined = h.to.joined;
          }))
      by_imported h false f = by_owner h f (owner_in t x.0 == owner_in t s) refl

      by_kind : JoinsEnd s p k roles.Socket x q j → owner_in t x.0 ≡ owner_in t s
      by_kind h = by_imported h (is_imported h.to.here.x.kind) refl

  pub ends_mutual : (s p k : ℕ) (x : SlotId) (q j : ℕ) → joined_at t s p k ≡ partners.End x q j → joined_at t x.0 q j ≡ seen_as t s p k
  ends_mutual s p k x q j e = (joins_end s p k x q j e).back

  pub sockets_mutual : (s p k : ℕ) (x : SlotId) (q j : ℕ) → joined_at t s p k ≡ partners.Socket x q j → joined_at t x.0 q j ≡ seen_as t s p k
  sockets_mutual s p k x q j e = (joins_socket s p k x q j e).back

  -- ---- who is told

  -- where a place lets its slot's owner tell a controller, another one, that is told
  told_by_place : (s p k d : ℕ) (h : IsPlace s p k) → d < length t.controllers → d ≢ owner_in t s → lets_tell slots s d (place_here s p k h) (joined_at t s p k) ≡ true → is_told t s d ≡ true
  unfolding is_told
  told_by_place s p k d h below other lets =
      let there = slice_get_within slots s h.x h.of.slot in
      let apart : (owner_by (slice_get slots s) == d) ≡ false = unequal (owner_by (slice_get slots s)) d (λ same. other (sym same ∙ sym (owner_is s))) in
      let any = any_at (lets_tell slots s d) (places_of m) t.partners (index_of s p k) (place_here s p k h) (joined_at t s p k) (place_at s p k h) (partner_here s p k h) lets in
      w.told.answers s d there below
      ∙ ap (λ b. not b && any_joined (lets_tell slots s d) (places_of m) t.partners) apart ∙ any
    where
      unequal : (a b : ℕ) → (a ≡ b → ⊥) → (a == b) ≡ false
      unequal a b ne = grind (arith, nat_tests)

  -- a slot that isn't imported has end places where it is joined
  end_here : (s p k : ℕ) (h : IsPlace s p k) → is_imported_slot t s ≡ false → is_joined (joined_at t s p k) ≡ true → role_here s p k h ≡ roles.End
  end_here s p k h own joined = end_by_role (is_imported h.x.kind) h.port.kind (no_relay s p k h joined) (sym (imported_is s h.x h.of.slot) ∙ own)

  pub ends_tell : OwnersAreThere t → (s p k : ℕ) (x : SlotId) (q j : ℕ) → is_imported_slot t s ≡ false → joined_at t s p k ≡ partners.End x q j → owner_in t x.0 ≢ owner_in t s
      → is_told t s (owner_in t x.0) ≡ true
  ends_tell owners s p k x q j own e other =
      let h = joined_place s p k (ap is_joined e) in
      told_by_place s p k (owner_in t x.0) h (owners x.0) other
      (ap (lets_tell slots s (owner_in t x.0) (place_here s p k h)) e
      ∙ and_from ((s == s) && is_end_role (role_here s p k h)) (owner_by (slice_get slots x.0) == owner_in t x.0)
      (and_from (s == s) (is_end_role (role_here s p k h)) (eq-eqb s s refl) (ap is_end_role (end_here s p k h own (ap is_joined e))))
      (eq-eqb (owner_by (slice_get slots x.0)) (owner_in t x.0) (sym (owner_is x.0))))

  pub sockets_tell : (s p k : ℕ) (x : SlotId) (q j d : ℕ) → is_imported_slot t s ≡ false → joined_at t s p k ≡ partners.Socket x q j → d < length t.controllers → d ≢ owner_in t s
      → is_told t s d ≡ true
  sockets_tell s p k x q j d own e below other =
      let h = joined_place s p k (ap is_joined e) in
      told_by_place s p k d h below other
      (ap (lets_tell slots s d (place_here s p k h)) e
      ∙ and_from (s == s) (is_end_role (role_here s p k h)) (eq-eqb s s refl) (ap is_end_role (end_here s p k h own (ap is_joined e))))
