-- The ports of joined places have one protocol.
use Rattle.std.proofs.Common.{◌≡◌, ◌∙◌, ℕ, zero, suc, ◌*◌, ◌<◌, List, [], ◌∷◌, length, Option, Some, None, option_and_then, slice_get, refl, sym, ap, subst, arith}
use Rattle.std.specs.Option.{option_map_or}
use Rattle.std.proofs.lemmas.Option.{same_Some, slice_get_within}
use Rattle.room_ast.specs.Trees.{ModelTree}
use Rattle.room_ast.specs.declared.model_parts.entries.PortEntry.{PortEntry}
use Rattle.room_kinds.specs.declared.numbers.SlotId.{SlotId}
use Rattle.room_wiring.specs.declared.names.ClassNames.{ClassNames}
use Rattle.room_wiring.specs.declared.names.PortNames.{PortNames}
use Rattle.room_wiring.specs.declared.slot.Partner.{Partner}
use Rattle.room_wiring.specs.declared.slot.Partner.TheVariants as partners
use Rattle.room_wiring.specs.declared.slot.Slot.{Slot}
use Rattle.room_wiring.specs.declared.tables.Tables.{Tables}
use Rattle.room_wiring.specs.Places.{port_count}
use Rattle.room_wiring.specs.Slots.{class_of, port_at}
use Rattle.check_scopes.specs.class_scopes.Signals.{is_frame}
use Rattle.structure_check.specs.List.{all_rules}
use Rattle.structure_check.specs.Rules.{first_broken}
use Rattle.structure_check.specs.declared.flat_rule.FlatRule.TheVariants as rules
use Rattle.structure_check.proofs.KeptRules.{rule_kept, all_few}
use Rattle.wiring_plan.specs.structure_plan.Plans.{plan_of}
use Rattle.wiring_slots.specs.model_slots.Answers.{slots_in}
use Rattle.wiring_places.specs.declared.place_rules.place.LayerJoin.{LayerJoin}
use Rattle.wiring_places.specs.place_rules.Layers.{layer_joins}
use Rattle.wiring_places.specs.place_rules.Parts.{class_plan}
use Rattle.wiring_joins.specs.place_faces.SlotsOf.{AreSlotsOf}
use Rattle.wiring_joins.proofs.place_faces.Faces.{IsFace, same_face}
use Rattle.binding_expand.specs.Faults.{HasNoFault}
use Rattle.binding_expand.specs.Wirings.{IsWiringOf}
use Rattle.binding_expand.proofs.Kept.{known, finite, layers}
use Rattle.binding_expand.proofs.pair_laws.Models.{model_slots}
use Rattle.actor_duties.specs.Words.{joined_at}
use Rattle.law_models.specs.joined_ports.Protocols.{HasOneProtocol, ModelsJoinOneProtocol}
use Rattle.law_models.proofs.joined_ports.Ends.{IsEnd, ShareProtocol}
use Rattle.law_models.proofs.joined_ports.Entries.{entry_at, names_entry}
use Rattle.law_models.proofs.joined_ports.Named.{duty_ports, IsNamed, named_alike}
use Rattle.law_models.proofs.joined_ports.Pairs.{led_share}
use Rattle.law_models.proofs.settled_models.Joins.{IsPlace, IsJoinedTo, index_of, ports_are, joins_end, joins_socket}
use Rattle.law_models.proofs.settled_models.Ports.{port_is}

-- ---- the rule on the sides of bindings

module _ (m : ModelTree) (t : Tables) (keeps : first_broken all_rules m ≡ None) (w : IsWiringOf m t) (flawless : HasNoFault m) where
  abbrev slots : List Slot
  slots = slots_in m

  abbrev joins : List LayerJoin
  joins = layer_joins (plan_of m) slots

  are : AreSlotsOf (plan_of m) slots
  are = model_slots m (known m keeps) (finite m keeps) (layers m keeps) (all_few m keeps)

  -- a port of a place has names
  some_port : (s p : ℕ) (x : Slot) → slice_get slots s ≡ Some x → p < length (class_plan (plan_of m) x.class).ports → (port : PortNames) × (port_at t s p ≡ Some port)
  unfolding port_at port_count
  some_port s p x at less =
      let many : port_count t s ≡ length (class_plan (plan_of m) x.class).ports = ports_are m t keeps w flawless s x at in
      go (class_of t s) refl (omega (arith, less, many))
    where
      there : (xs : List PortNames) (q : ℕ) → q < length xs → (port : PortNames) × (slice_get xs q ≡ Some port)
      there [] q lt = absurd (omega (arith, lt))
      there (x ∷ xs) zero lt = (x, refl)
      there (x ∷ xs) (suc q) lt = there xs q (omega (arith, lt))

      go : (o : Option ClassNames) → class_of t s ≡ o → p < port_count t s → (port : PortNames) × (port_at t s p ≡ Some port)
      go None e lt = let none = ap (λ (o : Option ClassNames). option_map_or (λ (c : ClassNames). length c.ports) o 0) e in absurd (omega (arith, lt, none))
      go (Some c) e lt =
          let many = ap (λ (o : Option ClassNames). option_map_or (λ (c : ClassNames). length c.ports) o 0) e in
          let found = there c.ports p (omega (arith, lt, many)) in
          (found.0, ap (λ (o : Option ClassNames). option_and_then (λ (c : ClassNames). slice_get c.ports p) o) e ∙ found.1)

  -- the port of the place of a face
  named_of : (s p k : ℕ) (h : IsPlace m t keeps w flawless s p k) (protocol : Option ℕ) → IsEnd m slots joins (2 * index_of m t keeps w flawless s p k) protocol → IsNamed m t s p protocol
  named_of s p k h protocol u =
      let f = 2 * index_of m t keeps w flawless s p k in
      let face : IsFace (plan_of m) slots joins f s p k 0 h.x h.port = record { at = h.of; within = h.below; outer_or_inner = omega arith; number = omega arith } in
      let same = same_face (plan_of m) slots joins f s p k 0 h.x h.port u.s u.p u.k u.d u.x u.port face u.face in
      let entry_is : entry_at m h.x.class p ≡ Some u.entry = ap (λ (z : Slot). entry_at m z.class p) same.slot_is ∙ ap (entry_at m u.x.class) same.port_number ∙ u.entry_is in
      let some = some_port s p h.x h.of.slot (slice_get_within (class_plan (plan_of m) h.x.class).ports p h.port h.of.named) in
      let back = names_entry m h.x.class p some.0 (sym (port_is m t keeps w flawless s p h.x h.of.slot) ∙ duty_ports t s p ∙ some.1) in
      let one : back.1 ≡ u.entry = same_Some back.1 u.entry (sym back.2 ∙ entry_is) in
      record {
        port = some.0;
        port_is = some.1;
        name = back.0;
        entry = back.1;
        named = back.3;
        protocol_is = ap (λ (e : PortEntry). e.protocol) one ∙ u.protocol_is;
        plain = ap (λ (e : PortEntry). is_frame e.kind) one ∙ u.plain;
      }

  joined_alike : (s p k : ℕ) (partner : Partner) (to : IsJoinedTo m t keeps w flawless s p k partner) → HasOneProtocol t s p to.y.slot to.y.port
  joined_alike s p k partner to =
      let near = index_of m t keeps w flawless s p k in
      let far = index_of m t keeps w flawless to.y.slot to.y.port to.y.place in
      let share : ShareProtocol m slots joins (2 * near) (2 * far) = led_share m slots are (all_few m keeps) (rule_kept m keeps rules.SidesAgree) (2 * near) (2 * far) to.joined in
      named_alike m t s p to.y.slot to.y.port share.protocol (named_of s p k to.here share.protocol share.left) (named_of to.y.slot to.y.port to.y.place to.there share.protocol share.right)

  ends_alike : (s p k : ℕ) (x : SlotId) (q j : ℕ) → joined_at t s p k ≡ partners.End x q j → HasOneProtocol t s p x.0 q
  ends_alike s p k x q j e =
      let h = joins_end m t keeps w flawless s p k x q j e in
      subst (λ n. HasOneProtocol t s p n q) h.partner.slot (subst (λ n. HasOneProtocol t s p h.to.y.slot n) h.partner.port (joined_alike s p k (joined_at t s p k) h.to))

  sockets_alike : (s p k : ℕ) (x : SlotId) (q j : ℕ) → joined_at t s p k ≡ partners.Socket x q j → HasOneProtocol t s p x.0 q
  sockets_alike s p k x q j e =
      let h = joins_socket m t keeps w flawless s p k x q j e in
      subst (λ n. HasOneProtocol t s p n q) h.partner.slot (subst (λ n. HasOneProtocol t s p h.to.y.slot n) h.partner.port (joined_alike s p k (joined_at t s p k) h.to))

pub models_join_one_protocol : ModelsJoinOneProtocol
models_join_one_protocol m t keeps w flawless = record { ends = ends_alike m t keeps w flawless; sockets = sockets_alike m t keeps w flawless }
