-- The classes and controllers of a model.
use Rattle.std.proofs.Common.{◌≡◌, ℕ, Bool, true, false, cond, List, [], ◌∷◌, map, length, refl, sym, subst}
use Rattle.std.specs.Prelude.{All, codes, ◌==◌}
use Rattle.std.specs.List.{list_all}
use Rattle.std.proofs.lemmas.Bool.{and_parts}
use Rattle.std.proofs.lemmas.List.Elements.{All-nil, All-cons, All-head, All-tail}
use Rattle.room_ast.specs.Trees.{ModelTree, ActorTree}
use Rattle.room_wiring.specs.WellNamed.{IsIdent}
use Rattle.room_wiring.specs.declared.names.PortNames.{PortNames}
use Rattle.check_classes.specs.class_rules.Names.{actor_has_names, has_part_names, has_message_names}
use Rattle.check_tables.specs.class_tables.Containers.{actor_container}
use Rattle.check_mappings.specs.mapping_rules.Rules.{thread_names}
use Rattle.room_ast.specs.model_parts.Classes.{actors, actor_names, protocol_names}
use Rattle.room_ast.specs.model_parts.Ports.{interface_of, structure_of, port_names}
use Rattle.wiring_plan.specs.wiring_classes.Labels.{label_of}
use Rattle.wiring_plan.specs.wiring_classes.Parts.{named, port_names_of}
use Rattle.wiring_plan.specs.wiring_classes.Classes.{labelled_signals, ports_in, class_names, classes_of}
use Rattle.wiring_slots.specs.slot_names.Names.{controllers_of, wired_of, wired_names}
use Rattle.law_models.specs.wiring_laws.model_names.Identifiers.{NamesParts}
use Rattle.law_models.specs.wiring_laws.model_names.Ports.{HasWellNamedPorts}
use Rattle.law_models.proofs.wiring_laws.model_names.Lists.{differ_of, labels_are, all_idents}
use Rattle.law_models.proofs.wiring_laws.model_names.Signals.{port_signals}
use Rattle.law_models.proofs.wiring_laws.model_names.Ports.{ports_named, named_distinct, port_names_distinct}

module _ (m : ModelTree) (distinct : has_message_names m ≡ true) (idents : NamesParts m) where
  one_class : (a : ActorTree) → actor_has_names a ≡ true → All IsIdent (port_names a) → HasWellNamedPorts (class_names m a)
  unfolding class_names ports_in has_message_names
  one_class a parts names =
      let c = actor_container (protocol_names m) (actor_names m) a in
      let good = port_signals m idents.messages distinct in
      record {
        ports = ports_named (protocol_names m) (labelled_signals m) good c.port_names c.ports names;
        differ =
            differ_of (λ (x : PortNames). x.name) (named (port_names_of (protocol_names m) (labelled_signals m)) c.port_names c.ports)
            (named_distinct (protocol_names m) (labelled_signals m) good c.port_names c.ports names (port_names_distinct (interface_of a) (structure_of a) parts));
      }

  all_classes : (xs : List ActorTree) → list_all actor_has_names xs ≡ true → All (λ (a : ActorTree). All IsIdent (port_names a)) xs → All HasWellNamedPorts (map (class_names m) xs)
  all_classes [] h k = All-nil HasWellNamedPorts
  all_classes (a ∷ xs) h k =
      let parts = and_parts (actor_has_names a) (list_all actor_has_names xs) h in
      All-cons HasWellNamedPorts (class_names m a) (map (class_names m) xs) (one_class a parts.0 (All-head (λ (x : ActorTree). All IsIdent (port_names x)) a xs k)) (all_classes xs parts.1 (All-tail (λ (x : ActorTree). All IsIdent (port_names x)) a xs k))

pub classes_named : (m : ModelTree) → has_part_names m ≡ true → has_message_names m ≡ true → NamesParts m → All HasWellNamedPorts (classes_of m)
unfolding classes_of has_part_names
classes_named m parts distinct idents = all_classes m distinct idents (actors m) parts idents.ports

controllers_named : (threads : List (List ℕ)) → All IsIdent threads → All IsIdent (controllers_of threads)
controllers_named threads h = pick (length threads == 0)
  where
    pick : (b : Bool) → All IsIdent (cond b (codes "default" ∷ []) (map label_of threads))
    pick true = all_idents (codes "default" ∷ []) refl
    pick false = subst (λ ns. All IsIdent ns) (sym (labels_are threads h)) h

pub model_controllers : (m : ModelTree) → NamesParts m → All IsIdent (wired_names m).controllers
unfolding wired_names
model_controllers m idents = controllers_named (thread_names (wired_of m).items) idents.threads
