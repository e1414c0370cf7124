-- The messages of ports have different names.
use Rattle.std.proofs.Common.{◌≡◌, ◌∙◌, ℕ, zero, suc, Bool, true, false, cond, List, [], ◌∷◌, ◌++◌, map, Option, Some, None, refl, sym, ap, subst}
use Rattle.std.specs.Prelude.{All, slice_get, unwrap_or, option_and_then}
use Rattle.std.specs.List.{list_all}
use Rattle.std.proofs.lemmas.Bool.{and_parts}
use Rattle.std.proofs.lemmas.List.{map-append}
use Rattle.std.proofs.lemmas.List.Elements.{All-nil, All-head, All-tail}
use Rattle.room_ast.specs.Trees.{ModelTree}
use Rattle.room_ast.specs.declared.protocol.Message.{Message}
use Rattle.room_ast.specs.declared.protocol.ProtocolClass.{ProtocolClass}
use Rattle.room_wiring.specs.WellNamed.{IsIdent}
use Rattle.room_wiring.specs.declared.names.SignalNames.{SignalNames}
use Rattle.name_tables.specs.name_numbers.Names.{AreDistinct}
use Rattle.name_tables.proofs.distinct_names.Laws.{fact_of}
use Rattle.check_classes.specs.class_rules.Names.{message_names, protocol_has_names}
use Rattle.room_ast.specs.model_parts.Classes.{protocols}
use Rattle.room_ast.specs.model_parts.Types.{incoming_of, outgoing_of}
use Rattle.room_ast.specs.declared.model_parts.entries.PortEntry.{PortEntry}
use Rattle.wiring_plan.specs.wiring_classes.Labels.{label_of}
use Rattle.check_scopes.specs.declared.class_scopes.signals.Signals.{Signals}
use Rattle.check_scopes.specs.class_scopes.Signals.{signal_of, protocol_signals, frame_signals, frame_only, no_signals, is_frame, signals_at, map_signals}
use Rattle.wiring_plan.specs.wiring_classes.Parts.{labelled}
use Rattle.wiring_plan.specs.wiring_classes.Classes.{labelled_signals}
use Rattle.law_models.proofs.wiring_laws.model_names.Lists.{labels_are, all_idents}

-- the names of messages, incoming ones first
abbrev pub signal_names : Signals SignalNames → List (List ℕ)
signal_names s = map (λ (x : SignalNames). x.name) (s.incoming ++ s.outgoing)

-- messages whose names are distinct identifiers
pub record AreNamed (s : Signals SignalNames) : Type 0 where
  pub idents : All IsIdent (signal_names s)
  pub distinct : AreDistinct (signal_names s)

module _ (m : ModelTree) where
  names_made : (xs : List Message) → map (λ (x : SignalNames). x.name) (map labelled (map (signal_of m) xs)) ≡ map label_of (message_names xs)
  names_made [] = refl
  names_made (x ∷ xs) = ap (λ ys. label_of x.name ∷ ys) (names_made xs)

  made_of : (p : ProtocolClass) → All IsIdent (message_names (incoming_of p) ++ message_names (outgoing_of p)) → signal_names (map_signals labelled (protocol_signals m p)) ≡ message_names (incoming_of p) ++ message_names (outgoing_of p)
  made_of p idents =
      let name : SignalNames → List ℕ = λ x. x.name in
      let signals : List Message → List SignalNames = λ xs. map labelled (map (signal_of m) xs) in
      map-append name (signals (incoming_of p)) (signals (outgoing_of p)) ∙ ap (λ ys. ys ++ map name (signals (outgoing_of p))) (names_made (incoming_of p))
      ∙ ap (λ ys. map label_of (message_names (incoming_of p)) ++ ys) (names_made (outgoing_of p)) ∙ sym (map-append label_of (message_names (incoming_of p)) (message_names (outgoing_of p)))
      ∙ labels_are (message_names (incoming_of p) ++ message_names (outgoing_of p)) idents

  protocol_named : (p : ProtocolClass) → All IsIdent (message_names (incoming_of p) ++ message_names (outgoing_of p)) → protocol_has_names p ≡ true → AreNamed (map_signals labelled (protocol_signals m p))
  protocol_named p idents distinct =
      let is = made_of p idents in
      record {
        idents = subst (λ ns. All IsIdent ns) (sym is) idents;
        distinct = subst (λ ns. AreDistinct ns) (sym is) (fact_of (message_names (incoming_of p) ++ message_names (outgoing_of p)) distinct);
      }

  none_named : AreNamed (map_signals labelled no_signals)
  none_named = record { idents = All-nil IsIdent; distinct = fact_of [] refl }

  frame_named : AreNamed (map_signals labelled frame_only)
  unfolding frame_signals label_of
  frame_named = let names = signal_names (map_signals labelled frame_only) in record { idents = all_idents names refl; distinct = fact_of names refl }

  abbrev IdentMessages : ProtocolClass → Type 0
  IdentMessages p = All IsIdent (message_names (incoming_of p) ++ message_names (outgoing_of p))

  at_number : (ps : List ProtocolClass) (n : ℕ) → All IdentMessages ps → list_all protocol_has_names ps ≡ true → AreNamed (unwrap_or (slice_get (map (map_signals labelled) (map (protocol_signals m) ps)) n) (map_signals labelled no_signals))
  at_number [] n h k = none_named
  at_number (p ∷ ps) zero h k = protocol_named p (All-head IdentMessages p ps h) (and_parts (protocol_has_names p) (list_all protocol_has_names ps) k).0
  at_number (p ∷ ps) (suc n) h k = at_number ps n (All-tail IdentMessages p ps h) (and_parts (protocol_has_names p) (list_all protocol_has_names ps) k).1

  module _ (idents : All IdentMessages (protocols m)) (distinct : list_all protocol_has_names (protocols m) ≡ true) where
    at_protocol : (o : Option ℕ) → AreNamed (unwrap_or (option_and_then (slice_get (map (map_signals labelled) (map (protocol_signals m) (protocols m)))) o) (map_signals labelled no_signals))
    at_protocol None = none_named
    at_protocol (Some n) = at_number (protocols m) n idents distinct

    -- the messages of a port are named so
    pub port_signals : (p : PortEntry) → AreNamed (signals_at (labelled_signals m) p)
    unfolding labelled_signals
    port_signals p = pick (is_frame p.kind)
      where
        pick : (b : Bool) → AreNamed (cond b (map_signals labelled frame_only) (unwrap_or (option_and_then (slice_get (map (map_signals labelled) (map (protocol_signals m) (protocols m)))) p.protocol) (map_signals labelled no_signals)))
        pick true = frame_named
        pick false = at_protocol p.protocol
