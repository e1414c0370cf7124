-- The names of the parts of classes.
use Rattle.std.proofs.Common.{ℕ, List, [], ◌∷◌, ◌++◌, map, Option, Some, None, refl}
use Rattle.std.specs.Prelude.{All, unwrap_or}
use Rattle.std.specs.List.{filter_map, AllByRecursion}
use Rattle.std.proofs.lemmas.List.Elements.{All-nil, All-cons, All-append}
use Rattle.room_lexer.specs.declared.token.Mark.TheVariants as marks
use Rattle.room_ast.specs.Tokens.{mark, each, maybe, braces, word_if, ref_kind, actor_ref, port, interface_item, structure_item, message, incoming, outgoing, usercode, protocol_class, interface, structure, behavior, extends, actor_class, subsystem_item, subsystem}
use Rattle.room_ast.specs.Trees.{ActorTree, SubsystemItemTree, AReference, ABinding, ALayer, AThread, AMapping, SubsystemTree}
use Rattle.room_ast.specs.Values.{TokenValue}
use Rattle.room_ast.specs.declared.actor.ActorRef.{ActorRef}
use Rattle.room_ast.specs.declared.actor.InterfaceItem.{InterfaceItem}
use Rattle.room_ast.specs.declared.actor.InterfaceItem.TheVariants as interfaces
use Rattle.room_ast.specs.declared.actor.Port.{Port}
use Rattle.room_ast.specs.declared.actor.StructureItem.{StructureItem}
use Rattle.room_ast.specs.declared.actor.StructureItem.TheVariants as structures
use Rattle.room_ast.specs.declared.protocol.Message.{Message}
use Rattle.room_ast.specs.declared.protocol.ProtocolClass.{ProtocolClass}
use Rattle.room_wiring.specs.WellNamed.{IsIdent}
use Rattle.room_tokens.specs.token_names.Names.{HasNames}
use Rattle.check_classes.specs.class_rules.Names.{message_names}
use Rattle.check_mappings.specs.mapping_rules.Rules.{thread_names}
use Rattle.room_ast.specs.model_parts.Ports.{interface_of, structure_of, interface_name, structure_name, frame_name, names_in, port_names}
use Rattle.room_ast.specs.model_parts.References.{as_subsystem_reference, references_in, references_of, subsystem_references, names_of_references}
use Rattle.room_ast.specs.model_parts.Types.{incoming_of, outgoing_of}
use Rattle.law_models.proofs.wiring_laws.name_tokens.Tokens.{ident_of, has_both, each_has}

reference_name : (r : ActorRef) → HasNames (actor_ref r) → IsIdent r.name
reference_name r h = ident_of r.name (has_both (maybe ref_kind r.kind) _ h).1.0

port_name : (p : Port) → HasNames (port p) → IsIdent p.name
port_name p h = ident_of p.name (has_both (word_if _ p.conjugated) _ h).1.0

abbrev one : (n : List ℕ) (ns : List (List ℕ)) → IsIdent n → All IsIdent ns → All IsIdent (n ∷ ns)
one n ns h k = All-cons IsIdent n ns h k

-- ---- items

references_named : (is : List StructureItem) → AllByRecursion (λ x. HasNames (structure_item x)) is → All IsIdent (names_of_references (references_in is))
references_named [] h = All-nil IsIdent
references_named (structures.Usercode u ∷ is) h = references_named is h.1
references_named (structures.External e ∷ is) h = references_named is h.1
references_named (structures.Port p ∷ is) h = references_named is h.1
references_named (structures.Access s ∷ is) h = references_named is h.1
references_named (structures.Implementation i ∷ is) h = references_named is h.1
references_named (structures.Attribute a ∷ is) h = references_named is h.1
references_named (structures.Reference r ∷ is) h = one r.name (names_of_references (references_in is)) (reference_name r h.0) (references_named is h.1)
references_named (structures.Binding b ∷ is) h = references_named is h.1
references_named (structures.Layer l ∷ is) h = references_named is h.1

structure_ports : (is : List StructureItem) → AllByRecursion (λ x. HasNames (structure_item x)) is → All IsIdent (filter_map structure_name is)
structure_ports [] h = All-nil IsIdent
structure_ports (structures.Usercode u ∷ is) h = structure_ports is h.1
structure_ports (structures.External e ∷ is) h = structure_ports is h.1
structure_ports (structures.Port p ∷ is) h = one p.name (filter_map structure_name is) (port_name p h.0) (structure_ports is h.1)
structure_ports (structures.Access s ∷ is) h = one s.name (filter_map structure_name is) (ident_of s.name h.0.0) (structure_ports is h.1)
structure_ports (structures.Implementation i ∷ is) h = structure_ports is h.1
structure_ports (structures.Attribute a ∷ is) h = structure_ports is h.1
structure_ports (structures.Reference r ∷ is) h = structure_ports is h.1
structure_ports (structures.Binding b ∷ is) h = structure_ports is h.1
structure_ports (structures.Layer l ∷ is) h = structure_ports is h.1

interface_ports : (is : List InterfaceItem) → AllByRecursion (λ x. HasNames (interface_item x)) is → All IsIdent (map interface_name is)
interface_ports [] h = All-nil IsIdent
interface_ports (interfaces.Port p ∷ is) h = one p.name (map interface_name is) (port_name p h.0) (interface_ports is h.1)
interface_ports (interfaces.Service s ∷ is) h = one s.name (map interface_name is) (ident_of s.name h.0.0) (interface_ports is h.1)

messages_named : (ms : List Message) → AllByRecursion (λ x. HasNames (message x)) ms → All IsIdent (message_names ms)
messages_named [] h = All-nil IsIdent
messages_named (x ∷ ms) h = one x.name (message_names ms) (ident_of x.name h.0.0) (messages_named ms h.1)

subsystem_named : (is : List SubsystemItemTree) → AllByRecursion (λ x. HasNames (subsystem_item x)) is → All IsIdent (names_of_references (filter_map as_subsystem_reference is))
subsystem_named [] h = All-nil IsIdent
subsystem_named (AReference r ∷ is) h = one r.name (names_of_references (filter_map as_subsystem_reference is)) (reference_name r h.0) (subsystem_named is h.1)
subsystem_named (ABinding b ∷ is) h = subsystem_named is h.1
subsystem_named (ALayer l ∷ is) h = subsystem_named is h.1
subsystem_named (AThread t ∷ is) h = subsystem_named is h.1
subsystem_named (AMapping m ∷ is) h = subsystem_named is h.1

pub threads_named : (is : List SubsystemItemTree) → AllByRecursion (λ x. HasNames (subsystem_item x)) is → All IsIdent (thread_names is)
threads_named [] h = All-nil IsIdent
threads_named (AReference r ∷ is) h = threads_named is h.1
threads_named (ABinding b ∷ is) h = threads_named is h.1
threads_named (ALayer l ∷ is) h = threads_named is h.1
threads_named (AThread t ∷ is) h = one t.name (thread_names is) (ident_of t.name h.0.0) (threads_named is h.1)
threads_named (AMapping m ∷ is) h = threads_named is h.1

-- ---- classes

in_braces : {A : Type 0} (out : A → List TokenValue) (xs : List A) → HasNames (braces out xs) → AllByRecursion (λ x. HasNames (out x)) xs
in_braces out xs h = each_has out xs (has_both (each out xs) (mark marks.CloseBrace) h).0

interface_part : (o : Option (List InterfaceItem)) → HasNames (maybe interface o) → AllByRecursion (λ x. HasNames (interface_item x)) (unwrap_or o [])
interface_part None h = tt
interface_part (Some xs) h = in_braces interface_item xs h

structure_part : (o : Option (List StructureItem)) → HasNames (maybe structure o) → AllByRecursion (λ x. HasNames (structure_item x)) (unwrap_or o [])
structure_part None h = tt
structure_part (Some xs) h = in_braces structure_item xs h

incoming_part : (o : Option (List Message)) → HasNames (maybe incoming o) → AllByRecursion (λ x. HasNames (message x)) (unwrap_or o [])
incoming_part None h = tt
incoming_part (Some xs) h = in_braces message xs h

outgoing_part : (o : Option (List Message)) → HasNames (maybe outgoing o) → AllByRecursion (λ x. HasNames (message x)) (unwrap_or o [])
outgoing_part None h = tt
outgoing_part (Some xs) h = in_braces message xs h

module _ (a : ActorTree) (h : HasNames (actor_class a)) where
  inside : HasNames (maybe interface a.interface ++ (maybe structure a.structure ++ (maybe behavior a.behavior ++ mark marks.CloseBrace)))
  inside = (has_both (maybe extends a.base) _ (has_both (word_if _ a.event_driven) _ h).1.1).1

  of_interface : AllByRecursion (λ x. HasNames (interface_item x)) (interface_of a)
  of_interface = interface_part a.interface (has_both (maybe interface a.interface) _ inside).0

  of_structure : AllByRecursion (λ x. HasNames (structure_item x)) (structure_of a)
  of_structure = structure_part a.structure (has_both (maybe structure a.structure) _ (has_both (maybe interface a.interface) _ inside).1).0

  pub actor_references : All IsIdent (names_of_references (references_of a))
  actor_references = references_named (structure_of a) of_structure

  pub actor_ports : All IsIdent (port_names a)
  unfolding names_in
  actor_ports =
      one frame_name (map interface_name (interface_of a) ++ filter_map structure_name (structure_of a)) (record { ident = refl })
      (All-append IsIdent (map interface_name (interface_of a)) (filter_map structure_name (structure_of a)) (interface_ports (interface_of a) of_interface) (structure_ports (structure_of a) of_structure))

pub protocol_messages : (p : ProtocolClass) → HasNames (protocol_class p) → All IsIdent (message_names (incoming_of p) ++ message_names (outgoing_of p))
protocol_messages p h =
    let inside = (has_both (word_if _ p.event_driven) _ h).1.1 in
    let directions = (has_both (each usercode p.usercodes) _ inside).1 in
    let first = has_both (maybe incoming p.incoming) _ directions in
    let second = has_both (maybe outgoing p.outgoing) _ first.1 in
    All-append IsIdent (message_names (incoming_of p)) (message_names (outgoing_of p)) (messages_named (incoming_of p) (incoming_part p.incoming first.0)) (messages_named (outgoing_of p) (outgoing_part p.outgoing second.0))

pub subsystem_items : (s : SubsystemTree) → HasNames (subsystem s) → AllByRecursion (λ x. HasNames (subsystem_item x)) s.items
subsystem_items s h = in_braces subsystem_item s.items h.1

pub subsystem_idents : (s : SubsystemTree) → HasNames (subsystem s) → All IsIdent (names_of_references (subsystem_references s))
subsystem_idents s h = subsystem_named s.items (subsystem_items s h)
