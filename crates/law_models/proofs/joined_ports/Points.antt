-- Service points whose protocols have one number are of one protocol, which is a class of the model.
use Rattle.std.proofs.Common.{◌≡◌, ◌∙◌, ℕ, zero, suc, ◌<◌, ◌≤◌, nat_le, true, false, cond, List, [], ◌∷◌, length, map, filter_map, Option, Some, None, option_and_then, slice_get, count_by, refl, sym, ap, subst, arith}
use Rattle.std.specs.Prelude.{◌&&◌, ◌||◌}
use Rattle.std.specs.List.{AllByRecursion as Each, list_all}
use Rattle.std.specs.Option.{option_map_or}
use Rattle.std.proofs.lemmas.Bool.{and_parts}
use Rattle.std.proofs.lemmas.Bool.Decides.{nat_tests}
use Rattle.std.proofs.lemmas.List.{length-map}
use Rattle.std.proofs.lemmas.List.Sums.{sum_by-cons}
use Rattle.std.proofs.lemmas.Option.{same_Some}
use Rattle.room_kinds.specs.declared.structure.PortKind.{PortKind}
use Rattle.room_kinds.specs.declared.structure.PortKind.TheVariants as kinds
use Rattle.room_ast.specs.Trees.{ModelTree, ClassTree, ASystem, ASubsystem, AnActor, AProtocol, AData, ActorTree}
use Rattle.room_ast.specs.declared.actor.InterfaceItem.{InterfaceItem}
use Rattle.room_ast.specs.declared.actor.InterfaceItem.TheVariants as interfaces
use Rattle.room_ast.specs.declared.actor.StructureItem.{StructureItem}
use Rattle.room_ast.specs.declared.actor.StructureItem.TheVariants as structures
use Rattle.room_ast.specs.declared.protocol.ProtocolClass.{ProtocolClass}
use Rattle.room_ast.specs.declared.model_parts.entries.PortEntry.{PortEntry}
use Rattle.room_ast.specs.model_parts.Classes.{as_actor, as_protocol, actors, protocols, protocol_names, protocol_names_in}
use Rattle.room_ast.specs.model_parts.Ports.{interface_of, structure_of, external_name, interface_entry, structure_entry, ports_in as entries_in}
use Rattle.room_wiring.specs.Slots.{slot_at, class_at, class_of, port_at}
use Rattle.room_wiring.specs.declared.names.ClassNames.{ClassNames}
use Rattle.room_wiring.specs.declared.names.PortNames.{PortNames}
use Rattle.room_wiring.specs.declared.slot.Slot.{Slot}
use Rattle.room_wiring.specs.declared.tables.Tables.{Tables}
use Rattle.check_classes.specs.class_rules.Ends.{interface_has_protocol, structure_has_protocol, ports_have_protocols, has_known_protocols}
use Rattle.check_mappings.specs.count_rules.Counts.{is_counted, classes_are_few, parts_are_few, numbers_are_few, has_few_parts}
use Rattle.check_scopes.specs.class_scopes.Signals.{is_frame}
use Rattle.structure_check.specs.List.{all_rules}
use Rattle.structure_check.specs.Rules.{first_broken}
use Rattle.structure_check.specs.declared.flat_rule.FlatRule.TheVariants as rules
use Rattle.structure_check.proofs.KeptRules.{rule_kept, all_few}
use Rattle.wiring_plan.specs.structure_plan.Parts.{short}
use Rattle.wiring_plan.specs.wiring_classes.Classes.{classes_of}
use Rattle.binding_expand.specs.Wirings.{IsWiringOf}
use Rattle.binding_expand.proofs.plan_laws.Numbers.{number_found, short_is}
use Rattle.actor_duties.specs.Words.{is_sap_kind, is_spp_kind, is_sap, is_spp, protocol_of, port_at as duty_port}
use Rattle.law_names.specs.Registrations.{is_point_port}
use Rattle.law_models.specs.joined_ports.Protocols.{HasOneProtocol, ModelsLinkOneProtocol}
use Rattle.law_models.proofs.joined_ports.Entries.{entry_at, port_in, known_of, tables_are, names_at, names_entry}
use Rattle.law_models.proofs.joined_ports.Named.{duty_ports, IsNamed, named_alike}
use Rattle.law_models.proofs.class_laws.Charts.{each_both}

-- ---- the rule on protocols

protocols_counted : (ks : List ClassTree) → length (filter_map as_protocol ks) ≤ count_by is_counted ks
protocols_counted [] = omega arith
protocols_counted (ASystem s ∷ ks) = let more = protocols_counted ks in let both = sum_by-cons (λ k. cond (is_counted k) 1 0) (ASystem s) ks in omega (arith, more, both)
protocols_counted (ASubsystem s ∷ ks) = let more = protocols_counted ks in let both = sum_by-cons (λ k. cond (is_counted k) 1 0) (ASubsystem s) ks in omega (arith, more, both)
protocols_counted (AnActor a ∷ ks) = let more = protocols_counted ks in let both = sum_by-cons (λ k. cond (is_counted k) 1 0) (AnActor a) ks in omega (arith, more, both)
protocols_counted (AProtocol p ∷ ks) = let more = protocols_counted ks in let both = sum_by-cons (λ k. cond (is_counted k) 1 0) (AProtocol p) ks in omega (arith, more, both)
protocols_counted (AData d ∷ ks) = let more = protocols_counted ks in let both = sum_by-cons (λ k. cond (is_counted k) 1 0) (AData d) ks in omega (arith, more, both)

few_protocols : (m : ModelTree) → has_few_parts m ≡ true → length (protocol_names m) ≤ 60000
unfolding has_few_parts protocol_names_in
few_protocols m h =
    let few = few_number (count_by is_counted m.classes) (and_parts (classes_are_few m.classes) (list_all parts_are_few m.classes) (and_parts (classes_are_few m.classes && list_all parts_are_few m.classes) (list_all (numbers_are_few m) (actors m)) h).0).0 in
    let counted = protocols_counted m.classes in
    let named = length-map (protocols m) (λ (p : ProtocolClass). p.name) in
    omega (arith, few, counted, named)
  where
    few_number : (n : ℕ) → nat_le n 60000 ≡ true → n ≤ 60000
    few_number n h = grind (arith, nat_tests)

-- ---- the protocols of ports

module _ (m : ModelTree) where
  -- but for `frame` each port has a protocol, a class of the model
  abbrev IsKnown : PortEntry → Type 0
  IsKnown e = is_frame e.kind ≡ false → (n : ℕ) × (e.protocol ≡ Some n) × (n < length (protocol_names m))

  interface_known : (externals : List (List ℕ)) (is : List InterfaceItem) → list_all (interface_has_protocol (protocol_names m)) is ≡ true → Each IsKnown (map (interface_entry (protocol_names m) externals) is)
  interface_known externals [] h = tt
  interface_known externals (interfaces.Port p ∷ is) h =
      let both = and_parts (interface_has_protocol (protocol_names m) (interfaces.Port p)) (list_all (interface_has_protocol (protocol_names m)) is) h in
      ((λ plain. number_found (protocol_names m) p.protocol both.0), interface_known externals is both.1)
  interface_known externals (interfaces.Service s ∷ is) h =
      let both = and_parts (interface_has_protocol (protocol_names m) (interfaces.Service s)) (list_all (interface_has_protocol (protocol_names m)) is) h in
      ((λ plain. number_found (protocol_names m) s.protocol both.0), interface_known externals is both.1)

  structure_known : (is : List StructureItem) → list_all (structure_has_protocol (protocol_names m)) is ≡ true → Each IsKnown (filter_map (structure_entry (protocol_names m)) is)
  structure_known [] h = tt
  structure_known (structures.Usercode u ∷ is) h = structure_known is h
  structure_known (structures.External e ∷ is) h = structure_known is h
  structure_known (structures.Port p ∷ is) h =
      let both = and_parts (structure_has_protocol (protocol_names m) (structures.Port p)) (list_all (structure_has_protocol (protocol_names m)) is) h in
      ((λ plain. number_found (protocol_names m) p.protocol both.0), structure_known is both.1)
  structure_known (structures.Access s ∷ is) h =
      let both = and_parts (structure_has_protocol (protocol_names m) (structures.Access s)) (list_all (structure_has_protocol (protocol_names m)) is) h in
      ((λ plain. number_found (protocol_names m) s.protocol both.0), structure_known is both.1)
  structure_known (structures.Implementation i ∷ is) h = structure_known is h
  structure_known (structures.Attribute a ∷ is) h = structure_known is h
  structure_known (structures.Reference r ∷ is) h = structure_known is h
  structure_known (structures.Binding b ∷ is) h = structure_known is h
  structure_known (structures.Layer l ∷ is) h = structure_known is h

  abbrev ClassKnown : ActorTree → Type 0
  ClassKnown a = Each IsKnown (known_of m a).ports

  class_known : (a : ActorTree) → list_all (interface_has_protocol (protocol_names m)) (interface_of a) ≡ true → list_all (structure_has_protocol (protocol_names m)) (structure_of a) ≡ true → ClassKnown a
  unfolding entries_in
  class_known a h k =
      ((λ plain. absurd cc), each_both IsKnown _ _ (interface_known (filter_map external_name (structure_of a)) (interface_of a) h) (structure_known (structure_of a) k))

  actors_known : (ks : List ClassTree) → list_all (ports_have_protocols (protocol_names m)) ks ≡ true → Each ClassKnown (filter_map as_actor ks)
  actors_known [] h = tt
  actors_known (ASystem s ∷ ks) h = actors_known ks h
  actors_known (ASubsystem s ∷ ks) h = actors_known ks h
  actors_known (AnActor a ∷ ks) h =
      let both = and_parts (ports_have_protocols (protocol_names m) (AnActor a)) (list_all (ports_have_protocols (protocol_names m)) ks) h in
      let parts = and_parts (list_all (interface_has_protocol (protocol_names m)) (interface_of a)) (list_all (structure_has_protocol (protocol_names m)) (structure_of a)) both.0 in
      (class_known a parts.0 parts.1, actors_known ks both.1)
  actors_known (AProtocol p ∷ ks) h = actors_known ks h
  actors_known (AData d ∷ ks) h = actors_known ks h

  one_known : (es : List PortEntry) (p : ℕ) (e : PortEntry) → Each IsKnown es → slice_get es p ≡ Some e → IsKnown e
  one_known [] p e h k = absurd cc
  one_known (x ∷ es) zero e h k = subst IsKnown (same_Some x e k) h.0
  one_known (x ∷ es) (suc p) e h k = one_known es p e h.1 k

  known_from : (xs : List ActorTree) (n p : ℕ) (e : PortEntry) → Each ClassKnown xs → port_in (slice_get (map (known_of m) xs) n) p ≡ Some e → IsKnown e
  known_from [] n p e h k = absurd cc
  known_from (a ∷ xs) zero p e h k = one_known (known_of m a).ports p e h.0 k
  known_from (a ∷ xs) (suc n) p e h k = known_from xs n p e h.1 k

  entry_known : has_known_protocols m ≡ true → (n p : ℕ) (e : PortEntry) → entry_at m n p ≡ Some e → IsKnown e
  unfolding has_known_protocols
  entry_known h n p e at = known_from (actors m) n p e (actors_known m.classes h) (ap (λ cs. port_in (slice_get cs n) p) (sym (tables_are m)) ∙ at)

-- ---- service points

-- a service point isn't `frame`
not_frame : (kind : PortKind) → (is_sap_kind kind || is_spp_kind kind) ≡ true → is_frame kind ≡ false
not_frame kinds.Frame h = absurd cc
not_frame kinds.Relay h = refl
not_frame kinds.End h = refl
not_frame kinds.Internal h = refl
not_frame kinds.Sap h = refl
not_frame kinds.Spp h = refl

module _ (m : ModelTree) (t : Tables) (keeps : first_broken all_rules m ≡ None) (w : IsWiringOf m t) where
  -- a service point by its names, with the number of its protocol
  record IsPoint (s p : ℕ) : Type 0 where
    number : ℕ
    named : IsNamed m t s p (Some number)
    number_is : protocol_of t s p ≡ number

  -- a port of a slot is one of the slot's class
  class_port : (s p : ℕ) (port : PortNames) → port_at t s p ≡ Some port → (n : ℕ) × (names_at (classes_of m) n p ≡ Some port)
  unfolding port_at class_of
  class_port s p port e = go (slot_at t s) e
    where
      go : (o : Option Slot) → option_and_then (λ (c : ClassNames). slice_get c.ports p) (option_and_then (λ (x : Slot). class_at t x.class) o) ≡ Some port → (n : ℕ) × (names_at (classes_of m) n p ≡ Some port)
      go None k = absurd cc
      go (Some x) k = (x.class, ap (λ cs. names_at cs x.class p) (sym w.classes) ∙ k)

  point_of : (s p : ℕ) (port : PortNames) → port_at t s p ≡ Some port → (is_sap_kind port.kind || is_spp_kind port.kind) ≡ true → IsPoint s p
  unfolding protocol_of
  point_of s p port is point =
      let at = class_port s p port is in
      let found = names_entry m at.0 p port at.1 in
      let kind = ap (λ (x : PortNames). x.kind) found.3 in
      let plain : is_frame found.1.kind ≡ false = ap is_frame kind ∙ not_frame port.kind point in
      let known = entry_known m (rule_kept m keeps rules.KnownProtocols) at.0 p found.1 found.2 plain in
      let few = few_protocols m (all_few m keeps) in
      let below = known.2 in
      let short_one : short known.0 ≡ Some known.0 = short_is known.0 (omega (arith, few, below)) in
      let protocol : port.protocol ≡ Some known.0 = ap (λ (x : PortNames). x.protocol) (sym found.3) ∙ ap (option_and_then short) known.1 ∙ short_one in
      record {
        number = known.0;
        named = record { port = port; port_is = is; name = found.0; entry = found.1; named = found.3; protocol_is = known.1; plain = plain };
        number_is = ap (λ (o : Option PortNames). option_map_or (λ (x : PortNames). option_map_or (λ n. n) x.protocol 0) o 0) (duty_ports t s p ∙ is) ∙ ap (λ (o : Option ℕ). option_map_or (λ n. n) o 0) protocol;
      }

  point_is : (s p : ℕ) → is_point_port t s p ≡ true → IsPoint s p
  unfolding is_sap is_spp
  point_is s p h = go (duty_port t s p) refl h
    where
      go : (o : Option PortNames) → duty_port t s p ≡ o → (option_map_or (λ (x : PortNames). is_sap_kind x.kind) o false || option_map_or (λ (x : PortNames). is_spp_kind x.kind) o false) ≡ true → IsPoint s p
      go None e k = absurd cc
      go (Some port) e k = point_of s p port (sym (duty_ports t s p) ∙ e) k

  points_alike : (s p x q : ℕ) → is_point_port t s p ≡ true → is_point_port t x q ≡ true → protocol_of t s p ≡ protocol_of t x q → HasOneProtocol t s p x q
  points_alike s p x q a b e =
      let near = point_is s p a in
      let far = point_is x q b in
      let same : near.number ≡ far.number = sym near.number_is ∙ e ∙ far.number_is in
      named_alike m t s p x q (Some far.number) (subst (λ n. IsNamed m t s p (Some n)) same near.named) far.named

pub models_link_one_protocol : ModelsLinkOneProtocol
models_link_one_protocol m t keeps w = points_alike m t keeps w
