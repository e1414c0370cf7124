-- The names of a model.
use Rattle.std.proofs.Common.{ℕ, Bool, true, false, cond, List, [], ◌∷◌, ◌++◌, Option, Some, None}
use Rattle.std.specs.Prelude.{All}
use Rattle.std.specs.List.{filter_map, AllByRecursion}
use Rattle.std.specs.Option.{option_map_or}
use Rattle.std.proofs.lemmas.List.Elements.{All-nil, All-cons}
use Rattle.room_lexer.specs.declared.token.Mark.TheVariants as marks
use Rattle.room_ast.specs.Tokens.{mark, each, dotted, import_tokens, class_tokens, model_tokens, subsystem}
use Rattle.room_ast.specs.Trees.{ModelTree, ClassTree, ASystem, ASubsystem, AnActor, AProtocol, AData, ActorTree, SubsystemTree}
use Rattle.room_ast.specs.declared.protocol.ProtocolClass.{ProtocolClass}
use Rattle.room_wiring.specs.WellNamed.{IsIdent}
use Rattle.name_tables.specs.name_numbers.Names.{same}
use Rattle.room_tokens.specs.token_names.Names.{HasNames}
use Rattle.check_classes.specs.class_rules.Names.{message_names}
use Rattle.check_mappings.specs.mapping_rules.Rules.{thread_names}
use Rattle.room_ast.specs.model_parts.Classes.{as_actor, as_protocol, as_subsystem, subsystems, systems, wired_name, actor_names}
use Rattle.room_ast.specs.model_parts.Ports.{port_names}
use Rattle.room_ast.specs.model_parts.References.{references_of, subsystem_references, names_of_references}
use Rattle.room_ast.specs.model_parts.Types.{incoming_of, outgoing_of}
use Rattle.check_tables.specs.class_tables.Containers.{subsystem_container}
use Rattle.wiring_plan.specs.structure_plan.Plans.{wired_subsystem}
use Rattle.wiring_plan.specs.structure_plan.Steps.{first_named}
use Rattle.wiring_slots.specs.slot_names.Names.{nothing_wired}
use Rattle.law_models.specs.wiring_laws.model_paths.Identifiers.{NamesReferences}
use Rattle.law_models.specs.wiring_laws.model_names.Identifiers.{NamesParts}
use Rattle.law_models.proofs.wiring_laws.name_tokens.Tokens.{has_both, each_has}
use Rattle.law_models.proofs.wiring_laws.name_tokens.Parts.{actor_references, actor_ports, protocol_messages, subsystem_items, subsystem_idents, threads_named}

abbrev Reads : List ClassTree → Type 0
Reads cs = AllByRecursion (λ x. HasNames (class_tokens x)) cs

pub classes_read : (m : ModelTree) → HasNames (model_tokens m) → Reads m.classes
classes_read m h =
    let inside = (has_both (dotted m.name) _ h).1 in
    let classes = (has_both (each import_tokens m.imports) _ inside).1 in
    each_has class_tokens m.classes (has_both (each class_tokens m.classes) (mark marks.CloseBrace) classes).0

abbrev ActorReferences : ActorTree → Type 0
ActorReferences a = All IsIdent (names_of_references (references_of a))

all_references : (cs : List ClassTree) → Reads cs → All ActorReferences (filter_map as_actor cs)
all_references [] h = All-nil ActorReferences
all_references (ASystem s ∷ cs) h = all_references cs h.1
all_references (ASubsystem s ∷ cs) h = all_references cs h.1
all_references (AnActor a ∷ cs) h = All-cons ActorReferences a (filter_map as_actor cs) (actor_references a h.0) (all_references cs h.1)
all_references (AProtocol p ∷ cs) h = all_references cs h.1
all_references (AData d ∷ cs) h = all_references cs h.1

abbrev ActorPorts : ActorTree → Type 0
ActorPorts a = All IsIdent (port_names a)

all_ports : (cs : List ClassTree) → Reads cs → All ActorPorts (filter_map as_actor cs)
all_ports [] h = All-nil ActorPorts
all_ports (ASystem s ∷ cs) h = all_ports cs h.1
all_ports (ASubsystem s ∷ cs) h = all_ports cs h.1
all_ports (AnActor a ∷ cs) h = All-cons ActorPorts a (filter_map as_actor cs) (actor_ports a h.0) (all_ports cs h.1)
all_ports (AProtocol p ∷ cs) h = all_ports cs h.1
all_ports (AData d ∷ cs) h = all_ports cs h.1

abbrev Messages : ProtocolClass → Type 0
Messages p = All IsIdent (message_names (incoming_of p) ++ message_names (outgoing_of p))

all_messages : (cs : List ClassTree) → Reads cs → All Messages (filter_map as_protocol cs)
all_messages [] h = All-nil Messages
all_messages (ASystem s ∷ cs) h = all_messages cs h.1
all_messages (ASubsystem s ∷ cs) h = all_messages cs h.1
all_messages (AnActor a ∷ cs) h = all_messages cs h.1
all_messages (AProtocol p ∷ cs) h = All-cons Messages p (filter_map as_protocol cs) (protocol_messages p h.0) (all_messages cs h.1)
all_messages (AData d ∷ cs) h = all_messages cs h.1

abbrev SubsystemReferences : SubsystemTree → Type 0
SubsystemReferences s = All IsIdent (names_of_references (subsystem_references s))

all_subsystems : (cs : List ClassTree) → Reads cs → All SubsystemReferences (filter_map as_subsystem cs)
all_subsystems [] h = All-nil SubsystemReferences
all_subsystems (ASystem s ∷ cs) h = all_subsystems cs h.1
all_subsystems (ASubsystem s ∷ cs) h = All-cons SubsystemReferences s (filter_map as_subsystem cs) (subsystem_idents s h.0) (all_subsystems cs h.1)
all_subsystems (AnActor a ∷ cs) h = all_subsystems cs h.1
all_subsystems (AProtocol p ∷ cs) h = all_subsystems cs h.1
all_subsystems (AData d ∷ cs) h = all_subsystems cs h.1

-- ---- threads

abbrev Threads : Option SubsystemTree → Type 0
Threads None = Unit {0}
Threads (Some s) = All IsIdent (thread_names s.items)

read_subsystems : (cs : List ClassTree) → Reads cs → AllByRecursion (λ (s : SubsystemTree). HasNames (subsystem s)) (filter_map as_subsystem cs)
read_subsystems [] h = tt
read_subsystems (ASystem s ∷ cs) h = read_subsystems cs h.1
read_subsystems (ASubsystem s ∷ cs) h = (h.0, read_subsystems cs h.1)
read_subsystems (AnActor a ∷ cs) h = read_subsystems cs h.1
read_subsystems (AProtocol p ∷ cs) h = read_subsystems cs h.1
read_subsystems (AData d ∷ cs) h = read_subsystems cs h.1

one_of : (s : SubsystemTree) (rest : Option SubsystemTree) (b : Bool) → Threads (Some s) → Threads rest → Threads (cond b (Some s) rest)
one_of s rest true good more = good
one_of s rest false good more = more

named_threads : (n : List ℕ) (ss : List SubsystemTree) → AllByRecursion (λ (s : SubsystemTree). HasNames (subsystem s)) ss → Threads (first_named n ss)
named_threads n [] h = tt
named_threads n (s ∷ ss) h = one_of s (first_named n ss) (same n s.name) (threads_named s.items (subsystem_items s h.0)) (named_threads n ss h.1)

wired_threads : (ss : List SubsystemTree) (n : Option (List ℕ)) → AllByRecursion (λ (s : SubsystemTree). HasNames (subsystem s)) ss → Threads (option_map_or (λ x. first_named x ss) n None)
wired_threads ss None h = tt
wired_threads ss (Some n) h = named_threads n ss h

threads_of : (names : List (List ℕ)) (o : Option SubsystemTree) → Threads o → All IsIdent (thread_names (option_map_or (λ (s : SubsystemTree). record { items = s.items; container = subsystem_container names s }) o nothing_wired).items)
threads_of names None h = All-nil IsIdent
threads_of names (Some s) h = h

-- ---- the model

pub references_named : (m : ModelTree) → HasNames (model_tokens m) → NamesReferences m
references_named m h = let read = classes_read m h in record { actors = all_references m.classes read; subsystems = all_subsystems m.classes read }

pub parts_named : (m : ModelTree) → HasNames (model_tokens m) → NamesParts m
parts_named m h =
    let read = classes_read m h in
    record {
      ports = all_ports m.classes read;
      messages = all_messages m.classes read;
      threads = threads_of (actor_names m) (wired_subsystem m) (wired_threads (subsystems m) (wired_name (systems m)) (read_subsystems m.classes read));
    }
