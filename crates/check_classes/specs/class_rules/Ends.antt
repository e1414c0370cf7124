-- The rules on what ports and references name.
use Rattle.std.specs.Prelude.{ℕ, ◌&&◌, Bool, true, false, List, [], ◌∷◌, Option, Some, None}
use Rattle.std.specs.List.{list_all, filter_map}
use Rattle.name_tables.specs.name_numbers.Names.{is_among}
use Rattle.name_tables.specs.distinct_names.Distinct.{is_distinct}
use Rattle.room_ast.specs.Trees.{ModelTree, ClassTree, ASystem, ASubsystem, AnActor, AProtocol, AData, ActorTree, SubsystemItemTree, AReference, ABinding, ALayer, AThread, AMapping}
use Rattle.room_ast.specs.declared.actor.InterfaceItem.{InterfaceItem}
use Rattle.room_ast.specs.declared.actor.InterfaceItem.TheVariants as interfaces
use Rattle.room_ast.specs.declared.actor.StructureItem.{StructureItem}
use Rattle.room_ast.specs.declared.actor.StructureItem.TheVariants as structures
use Rattle.room_ast.specs.model_parts.Classes.{as_actor, actor_names, protocol_names}
use Rattle.room_ast.specs.model_parts.Ports.{interface_of, structure_of, external_name}

-- ---- rule 10

abbrev pub interface_has_protocol : List (List ℕ) → InterfaceItem → Bool
interface_has_protocol protocols (interfaces.Port p) = is_among protocols p.protocol
interface_has_protocol protocols (interfaces.Service s) = is_among protocols s.protocol

abbrev pub structure_has_protocol : List (List ℕ) → StructureItem → Bool
structure_has_protocol protocols (structures.Usercode u) = true
structure_has_protocol protocols (structures.External e) = true
structure_has_protocol protocols (structures.Port p) = is_among protocols p.protocol
structure_has_protocol protocols (structures.Access s) = is_among protocols s.protocol
structure_has_protocol protocols (structures.Implementation i) = true
structure_has_protocol protocols (structures.Attribute a) = true
structure_has_protocol protocols (structures.Reference r) = true
structure_has_protocol protocols (structures.Binding b) = true
structure_has_protocol protocols (structures.Layer l) = true

abbrev pub ports_have_protocols : List (List ℕ) → ClassTree → Bool
ports_have_protocols protocols (ASystem s) = true
ports_have_protocols protocols (ASubsystem s) = true
ports_have_protocols protocols (AnActor a) = list_all (interface_has_protocol protocols) (interface_of a) && list_all (structure_has_protocol protocols) (structure_of a)
ports_have_protocols protocols (AProtocol p) = true
ports_have_protocols protocols (AData d) = true

-- Rule 10. Every port, service access point and service provision point names a protocol class.
unfoldable pub has_known_protocols : ModelTree → Bool
has_known_protocols m = list_all (ports_have_protocols (protocol_names m)) m.classes

-- ---- rule 11

-- The name of a port of the Interface.
abbrev pub interface_port : InterfaceItem → Option (List ℕ)
interface_port (interfaces.Port p) = Some p.name
interface_port (interfaces.Service s) = None

-- The name of a service provision point of the Interface.
abbrev pub interface_service : InterfaceItem → Option (List ℕ)
interface_service (interfaces.Port p) = None
interface_service (interfaces.Service s) = Some s.name

-- The service provision point that a `ServiceImplementation` names.
abbrev pub implemented_name : StructureItem → Option (List ℕ)
implemented_name (structures.Usercode u) = None
implemented_name (structures.External e) = None
implemented_name (structures.Port p) = None
implemented_name (structures.Access s) = None
implemented_name (structures.Implementation i) = Some i.name
implemented_name (structures.Attribute a) = None
implemented_name (structures.Reference r) = None
implemented_name (structures.Binding b) = None
implemented_name (structures.Layer l) = None

-- Whether each of the first names is one of the second, and stands once.
unfoldable pub each_once_among : List (List ℕ) → List (List ℕ) → Bool
each_once_among names all = is_distinct names && list_all (is_among all) names

abbrev pub repeats_ports : ActorTree → Bool
repeats_ports a =
    each_once_among (filter_map external_name (structure_of a)) (filter_map interface_port (interface_of a))
    && each_once_among (filter_map implemented_name (structure_of a)) (filter_map interface_service (interface_of a))

-- Rule 11. Every `external Port` names a port of the Interface, and every `ServiceImplementation` a service provision point, each at most once.
unfoldable pub has_own_ports : ModelTree → Bool
has_own_ports m = list_all repeats_ports (filter_map as_actor m.classes)

-- ---- rule 12

abbrev pub structure_has_class : List (List ℕ) → StructureItem → Bool
structure_has_class actors (structures.Usercode u) = true
structure_has_class actors (structures.External e) = true
structure_has_class actors (structures.Port p) = true
structure_has_class actors (structures.Access s) = true
structure_has_class actors (structures.Implementation i) = true
structure_has_class actors (structures.Attribute a) = true
structure_has_class actors (structures.Reference r) = is_among actors r.class
structure_has_class actors (structures.Binding b) = true
structure_has_class actors (structures.Layer l) = true

abbrev pub subsystem_has_class : List (List ℕ) → SubsystemItemTree → Bool
subsystem_has_class actors (AReference r) = is_among actors r.class
subsystem_has_class actors (ABinding b) = true
subsystem_has_class actors (ALayer l) = true
subsystem_has_class actors (AThread t) = true
subsystem_has_class actors (AMapping m) = true

abbrev pub references_have_classes : List (List ℕ) → ClassTree → Bool
references_have_classes actors (ASystem s) = true
references_have_classes actors (ASubsystem s) = list_all (subsystem_has_class actors) s.items
references_have_classes actors (AnActor a) = list_all (structure_has_class actors) (structure_of a)
references_have_classes actors (AProtocol p) = true
references_have_classes actors (AData d) = true

-- Rule 12. Every actor reference names an actor class.
unfoldable pub has_known_actors : ModelTree → Bool
has_known_actors m = list_all (references_have_classes (actor_names m)) m.classes
