-- The rules on names.
use Rattle.std.specs.Prelude.{ℕ, ◌&&◌, Bool, true, false, not, List, [], ◌∷◌, ◌++◌, map, Option, Some, None, codes}
use Rattle.std.specs.List.{list_all, list_any, filter_map}
use Rattle.std.specs.Option.{option_map_or}
use Rattle.name_tables.specs.name_numbers.Names.{is_among}
use Rattle.name_tables.specs.reserved_names.Words.{type_names, part_words}
use Rattle.name_tables.specs.distinct_names.Distinct.{is_distinct}
use Rattle.room_ast.specs.Trees.{ModelTree, ClassTree, ActorTree}
use Rattle.room_ast.specs.declared.actor.StructureItem.{StructureItem}
use Rattle.room_ast.specs.declared.actor.StructureItem.TheVariants as structures
use Rattle.room_ast.specs.declared.actor.InterfaceItem.{InterfaceItem}
use Rattle.room_ast.specs.declared.protocol.Attribute.{Attribute}
use Rattle.room_ast.specs.declared.protocol.DataClass.{DataClass}
use Rattle.room_ast.specs.declared.protocol.Message.{Message}
use Rattle.room_ast.specs.declared.protocol.ProtocolClass.{ProtocolClass}
use Rattle.room_ast.specs.declared.system.System.{System}
use Rattle.room_ast.specs.declared.system.SubsystemRef.{SubsystemRef}
use Rattle.room_ast.specs.model_parts.Classes.{class_name, class_names, as_system, as_actor, as_protocol, as_data, systems, subsystem_names}
use Rattle.room_ast.specs.model_parts.Ports.{interface_of, structure_of, interface_name}
use Rattle.room_ast.specs.model_parts.Types.{incoming_of, outgoing_of, fields_of}

-- ---- rule 1

-- Whether there is one reference, and it names one of the subsystem classes.
abbrev pub refers_to_one : List (List ℕ) → List SubsystemRef → Bool
refers_to_one names [] = false
refers_to_one names (r ∷ []) = is_among names r.class
refers_to_one names (r ∷ s ∷ rs) = false

-- Whether there is one LogicalSystem, and its one reference names one of the subsystem classes.
abbrev pub is_one_system : List (List ℕ) → List System → Bool
is_one_system names [] = false
is_one_system names (s ∷ []) = refers_to_one names s.references
is_one_system names (s ∷ t ∷ ss) = false

-- Rule 1. There is exactly one LogicalSystem, it has exactly one SubSystemRef, and that names a SubSystemClass.
unfoldable pub has_one_system : ModelTree → Bool
has_one_system m = is_one_system (subsystem_names m) (systems m)

-- ---- rule 2

-- Rule 2. The names of all classes and of the LogicalSystem are distinct, and none is the name of a type of numbers.
unfoldable pub has_class_names : ModelTree → Bool
has_class_names m = is_distinct (class_names m) && not (list_any (is_among type_names) (class_names m))

-- ---- rule 3

-- The name that an item of a Structure declares: of a port, a service access point, an attribute or a reference.
abbrev pub declared_name : StructureItem → Option (List ℕ)
declared_name (structures.Usercode u) = None
declared_name (structures.External e) = None
declared_name (structures.Port p) = Some p.name
declared_name (structures.Access s) = Some s.name
declared_name (structures.Implementation i) = None
declared_name (structures.Attribute a) = Some a.name
declared_name (structures.Reference r) = Some r.name
declared_name (structures.Binding b) = None
declared_name (structures.Layer l) = None

-- The names of the parts of a class with these items.
abbrev pub part_names : List InterfaceItem → List StructureItem → List (List ℕ)
part_names interface structure = map interface_name interface ++ filter_map declared_name structure

-- Whether these names of parts are distinct, and none is a word that no part may be called.
unfoldable pub are_part_names : List (List ℕ) → Bool
are_part_names names = is_distinct names && not (list_any (is_among part_words) names)

abbrev pub actor_has_names : ActorTree → Bool
actor_has_names a = are_part_names (part_names (interface_of a) (structure_of a))

-- Rule 3. In each actor class the names of ports, service points, attributes and references are distinct, and none is `frame` or a word of the action language.
unfoldable pub has_part_names : ModelTree → Bool
has_part_names m = list_all actor_has_names (filter_map as_actor m.classes)

-- ---- rule 4

-- The names of messages.
abbrev pub message_names : List Message → List (List ℕ)
message_names ms = map (λ (x : Message). x.name) ms

abbrev pub protocol_has_names : ProtocolClass → Bool
protocol_has_names p = is_distinct (message_names (incoming_of p) ++ message_names (outgoing_of p))

-- Rule 4. In each protocol class the names of messages, both directions together, are distinct.
unfoldable pub has_message_names : ModelTree → Bool
has_message_names m = list_all protocol_has_names (filter_map as_protocol m.classes)

-- ---- rule 5

abbrev pub data_has_names : DataClass → Bool
data_has_names d = is_distinct (map (λ (f : Attribute). f.name) (fields_of d))

-- Rule 5. In each data class the names of fields are distinct.
unfoldable pub has_field_names : ModelTree → Bool
has_field_names m = list_all data_has_names (filter_map as_data m.classes)
