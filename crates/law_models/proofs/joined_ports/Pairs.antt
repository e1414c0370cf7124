-- Two faces that are paired, and two to which a list of pairs leads, are those of places of ports of one protocol.
use Rattle.std.proofs.Common.{◌≡◌, ◌∙◌, inl, inr, ℕ, ◌+◌, ◌*◌, ◌<◌, Bool, true, false, cond, ◌==◌, List, [], ◌∷◌, ◌++◌, append_assoc, length, Option, Some, None, option_and_then, slice_index, refl, sym, ap, subst, arith, eq-eqb}
use Rattle.std.specs.Prelude.{nat_eq, nat_le}
use Rattle.std.specs.List.{AllByRecursion as Each}
use Rattle.std.proofs.lemmas.Bool.{and_parts}
use Rattle.std.proofs.lemmas.Bool.Decides.{nat_tests}
use Rattle.std.proofs.lemmas.List.Sums.{sum_by-append, sum_by-cons}
use Rattle.room_kinds.specs.declared.structure.PortKind.{PortKind}
use Rattle.room_kinds.specs.declared.structure.PortKind.TheVariants.{Sap, Spp}
use Rattle.room_ast.specs.Trees.{ModelTree}
use Rattle.room_wiring.specs.declared.slot.Slot.{Slot}
use Rattle.check_mappings.specs.count_rules.Counts.{has_few_parts}
use Rattle.check_scopes.specs.class_scopes.Signals.{is_frame}
use Rattle.check_bindings.specs.binding_rules.Bindings.{same_protocol, are_opposite, where_both, ends_agree}
use Rattle.check_bindings.specs.binding_rules.Ends.{end_of}
use Rattle.check_bindings.specs.binding_rules.Rules.{binding_sides_agree}
use Rattle.check_tables.specs.class_tables.Containers.{tables_of}
use Rattle.wiring_plan.specs.structure_plan.Parts.{short}
use Rattle.wiring_plan.specs.structure_plan.Plans.{plan_of}
use Rattle.wiring_plan.specs.declared.structure_plan.plan.PortPlan.{PortPlan}
use Rattle.wiring_plan.specs.declared.structure_plan.plan.StructurePlan.{StructurePlan}
use Rattle.number_graphs.specs.face_chains.Chains.{IsPaired, Leads, paired, passes}
use Rattle.wiring_places.specs.declared.place_rules.place.LayerJoin.{LayerJoin}
use Rattle.wiring_places.specs.place_rules.Counts.{counts, spans_from, first_ports_from, span_of, served_at, service_key}
use Rattle.wiring_places.specs.place_rules.Layers.{layer_joins}
use Rattle.wiring_places.specs.place_rules.Pairs.{container_pairs, layer_pairs}
use Rattle.wiring_places.specs.place_rules.Partners.{across_places}
use Rattle.wiring_joins.specs.joined_places.Wired.{counts_in, spans_in, places_in, pairs_in}
use Rattle.wiring_joins.specs.place_faces.SlotsOf.{AreSlotsOf}
use Rattle.wiring_joins.proofs.joined_places.Counted.{places_counted}
use Rattle.wiring_joins.proofs.place_faces.Faces.{IsFace, face_of_span, face_below}
use Rattle.wiring_joins.proofs.place_faces.Services.{IsOfKind}
use Rattle.wiring_joins.proofs.place_faces.Uses.{count_by_kind}
use Rattle.law_models.proofs.joined_ports.Ends.{IsEnd, ShareProtocol, turned_round, same_protocols, end_across}
use Rattle.law_models.proofs.joined_ports.Entries.{planned_entry}
use Rattle.law_models.proofs.joined_ports.Layers.{JoinsService, joins_serve}
use Rattle.law_models.proofs.joined_ports.Rules.{KeepsTo, containers_keep}
use Rattle.law_models.proofs.joined_ports.Sides.{BindingEnd, side_is}
use Rattle.law_models.proofs.joined_ports.Stretches.{OfBinding, containers_paired, paired_either}

-- ---- protocols by number

-- a number of 16 bits is that which it stands for
short_known : (o : Option ℕ) (n : ℕ) → option_and_then short o ≡ Some n → o ≡ Some n
short_known None n e = absurd cc
short_known (Some a) n e = pick (nat_le a 65535) e
  where
    pick : (b : Bool) → cond b (Some a) None ≡ Some n → (let o : Option ℕ = Some a in o) ≡ Some n
    pick true k = k
    pick false k = absurd cc

one_protocol : (o p : Option ℕ) → same_protocol o p ≡ true → o ≡ p
one_protocol None p e = absurd cc
one_protocol (Some a) None e = absurd cc
one_protocol (Some a) (Some b) e = let same : a ≡ b = one a b e in ap (λ n. Some n) same
  where
    one : (a b : ℕ) → nat_eq a b ≡ true → a ≡ b
    one a b g = grind (arith, nat_tests)

-- ends that agree have one protocol
agreed : (a b : BindingEnd) (o p : Option BindingEnd) → o ≡ Some a → p ≡ Some b → where_both ends_agree o p ≡ true → a.protocol ≡ b.protocol
agreed a b o p ea eb e =
    let both : ends_agree a b ≡ true = ap (λ q. where_both ends_agree (Some a) q) (sym eb) ∙ ap (λ q. where_both ends_agree q p) (sym ea) ∙ e in
    one_protocol a.protocol b.protocol (and_parts (same_protocol a.protocol b.protocol) (are_opposite a.conjugated b.conjugated) both).0

module _ (m : ModelTree) (slots : List Slot) (are : AreSlotsOf (plan_of m) slots) where
  abbrev plan : StructurePlan
  plan = plan_of m

  abbrev joins : List LayerJoin
  joins = layer_joins plan slots

  abbrev Share : ℕ → ℕ → Type 0
  Share = ShareProtocol m slots joins

  -- ---- pairs of bindings

  module _ (few : has_few_parts m ≡ true) (agree : binding_sides_agree m ≡ true) where
    binding_shares : (f g : ℕ) → OfBinding plan slots joins (KeepsTo m slots) f g → Share f g
    binding_shares f g h =
        let so = h.so in
        let left = side_is m few slots joins are h.c so.known so.references so.inside so.agrees.l h.b.left h.i f so.agrees.left h.left in
        let right = side_is m few slots joins are h.c so.known so.references so.inside so.agrees.r h.b.right h.j g so.agrees.right h.right in
        let same : left.end.protocol ≡ right.end.protocol =
        agreed left.end right.end (end_of (tables_of m).actors so.known so.agrees.l) (end_of (tables_of m).actors so.known so.agrees.r) left.named right.named so.agrees.agree in
        record { protocol = right.end.protocol; left = subst (IsEnd m slots joins f) same left.is; right = right.is }

    bindings_share : (n c f g : ℕ) → IsPaired (container_pairs plan slots (first_ports_from plan 0 slots) (spans_from 0 (counts plan slots joins)) c n) f g → Share f g
    bindings_share n c f g h = elim (containers_paired plan slots joins are (KeepsTo m slots) (containers_keep m agree slots) n c f g h) [
      | inl a ↦ binding_shares f g a
      | inr b ↦ turned_round m slots joins g f (binding_shares g f b)
    ]

  -- ---- pairs of layer connections

  abbrev first_of : ℕ → ℕ → ℕ
  first_of s p = (span_of (first_ports_from plan 0 slots) (spans_from 0 (counts plan slots joins)) s p).first

  service_end : (kind : PortKind) (s p k f n : ℕ) (is : IsOfKind plan slots kind s p) → is_frame kind ≡ false → is.port.protocol ≡ Some n → IsFace plan slots joins f s p k 0 is.x is.port → IsEnd m slots joins f (Some n)
  service_end kind s p k f n is plain known face =
      let found = planned_entry m is.x.class p is.port is.at.named in
      let e = found.0 in
      record {
        s = s;
        p = p;
        k = k;
        d = 0;
        x = is.x;
        port = is.port;
        face = face;
        entry = e;
        entry_is = found.1;
        protocol_is = short_known e.protocol n (ap (λ (q : PortPlan). q.protocol) found.2 ∙ known);
        plain = ap (λ (q : PortPlan). is_frame q.kind) found.2 ∙ ap is_frame is.kind_is ∙ plain;
      }

  sap_end : (s p n : ℕ) (is : IsOfKind plan slots Sap s p) → is.port.protocol ≡ Some n → IsEnd m slots joins (2 * first_of s p) (Some n)
  sap_end s p n is known =
      let count = count_by_kind plan slots joins s p is.x is.port Sap is.kind_is ∙ ap (λ b. cond b 0 1) is.present in
      service_end Sap s p 0 (2 * first_of s p) n is refl known (face_of_span plan slots joins (2 * first_of s p) s p 0 0 is.x is.port is.at (omega (arith, count)) (omega arith) (omega arith))

  spp_end : (s p k n : ℕ) (is : IsOfKind plan slots Spp s p) → k < served_at joins (service_key s p) → is.port.protocol ≡ Some n → IsEnd m slots joins (2 * (first_of s p + k)) (Some n)
  spp_end s p k n is lt known =
      let count = count_by_kind plan slots joins s p is.x is.port Spp is.kind_is ∙ ap (λ b. cond b 0 (served_at joins (service_key s p))) is.present in
      service_end Spp s p k (2 * (first_of s p + k)) n is refl known
      (face_of_span plan slots joins (2 * (first_of s p + k)) s p k 0 is.x is.port is.at (omega (arith, count, lt)) (omega arith) (omega arith))

  -- the joins before one leave it a place
  served_more : (before js : List LayerJoin) (j : LayerJoin) → served_at before (service_key j.spp_slot j.spp) < served_at (before ++ j ∷ js) (service_key j.spp_slot j.spp)
  served_more before js j =
      let key = service_key j.spp_slot j.spp in
      let one : LayerJoin → ℕ = λ i. cond (key == service_key i.spp_slot i.spp) 1 0 in
      let both = sum_by-append one before (j ∷ js) in
      let more = sum_by-cons one j js in
      let here : one j ≡ 1 = ap (λ b. cond b 1 0) (eq-eqb key key refl) in
      omega (arith, both, more, here)

  join_shares : (before js : List LayerJoin) (j : LayerJoin) → joins ≡ before ++ j ∷ js → JoinsService plan slots j
      → Share (2 * first_of j.sap_slot j.sap) (2 * (first_of j.spp_slot j.spp + served_at before (service_key j.spp_slot j.spp)))
  join_shares before js j whole is =
      let key = service_key j.spp_slot j.spp in
      let all = ap (λ js. served_at js key) whole in
      let more = served_more before js j in
      record {
        protocol = Some is.number;
        left = sap_end j.sap_slot j.sap is.number is.sap is.asks;
        right = spp_end j.spp_slot j.spp (served_at before key) is.number is.spp (omega (arith, all, more)) is.gives;
      }

  moved : (a b f g : ℕ) → Share a b → a ≡ f → b ≡ g → Share f g
  moved a b f g h e k = subst (λ z. Share z g) e (subst (λ z. Share a z) k h)

  layers_share : (before js : List LayerJoin) → joins ≡ before ++ js → Each (JoinsService plan slots) js → (f g : ℕ) → IsPaired (layer_pairs (first_ports_from plan 0 slots) (spans_from 0 (counts plan slots joins)) before js) f g
      → Share f g
  unfolding layer_pairs
  layers_share before [] whole is f g h = absurd h
  layers_share before (j ∷ js) whole is f g (inl (inl e)) = moved _ _ f g (join_shares before js j whole is.0) e.0 e.1
  layers_share before (j ∷ js) whole is f g (inl (inr e)) = turned_round m slots joins g f (moved _ _ g f (join_shares before js j whole is.0) e.0 e.1)
  layers_share before (j ∷ js) whole is f g (inr h) = layers_share (before ++ j ∷ []) js (whole ∙ sym (append_assoc before (j ∷ []) js)) is.1 f g h

  -- ---- all pairs, and where they lead

  module _ (few : has_few_parts m ≡ true) (agree : binding_sides_agree m ≡ true) where
    pairs_share : (f g : ℕ) → IsPaired (pairs_in plan slots) f g → Share f g
    unfolding pairs_in spans_in counts_in
    pairs_share f g h = elim (paired_either (container_pairs plan slots (first_ports_from plan 0 slots) (spans_in plan slots) 0 (length slots + 1)) _ f g h) [
      | inl a ↦ bindings_share few agree (length slots + 1) 0 f g a
      | inr b ↦ layers_share [] joins refl (joins_serve plan slots joins are) f g b
    ]

    -- a face of a port's place is one of the faces
    end_below : (f : ℕ) (protocol : Option ℕ) → IsEnd m slots joins f protocol → f < 2 * length (places_in plan slots)
    unfolding counts_in
    end_below f protocol u =
        let below = face_below plan slots joins f u.s u.p u.k u.d u.x u.port u.face in
        let many = places_counted plan slots in
        omega (arith, below, many)

    pub led_share : (f g : ℕ) → Leads (across_places (places_in plan slots)) (pairs_in plan slots) f g → Share f g
    led_share f g (paired _ _ p) = pairs_share f g p
    led_share f h (passes _ g _ p ne more) =
        let first = pairs_share f g p in
        let across : ℕ = slice_index (across_places (places_in plan slots)) g in
        let rest = led_share across h more in
        let turned = end_across m slots joins (places_in plan slots) g first.protocol (end_below g first.protocol first.right) ne first.right in
        let same = same_protocols m slots joins across first.protocol rest.protocol turned rest.left in
        record { protocol = rest.protocol; left = subst (IsEnd m slots joins f) same first.left; right = rest.right }
