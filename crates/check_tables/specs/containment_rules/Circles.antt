-- The rules on classes that contain themselves.
use Rattle.std.specs.Prelude.{ℕ, Bool, not, List, map, Option, Some, None}
use Rattle.std.specs.List.{filter_map}
use Rattle.room_ast.specs.Trees.{ModelTree}
use Rattle.room_ast.specs.model_parts.Classes.{actor_names, protocol_names}
use Rattle.room_ast.specs.model_parts.Types.{data_types}
use Rattle.room_ast.specs.declared.model_parts.entries.TypeEntry.{TypeEntry}
use Rattle.room_ast.specs.declared.model_parts.entries.TypeEntry.TheVariants as types
use Rattle.room_ast.specs.declared.model_parts.entries.ReferenceEntry.{ReferenceEntry}
use Rattle.check_tables.specs.declared.class_tables.container.Container.{Container}
use Rattle.check_tables.specs.class_tables.Containers.{actor_containers}
use Rattle.number_graphs.specs.class_containment.Containment.{contains_itself}

-- The data class that a type is, if it is one.
abbrev pub class_of_type : TypeEntry → Option ℕ
class_of_type (types.Number t) = None
class_of_type (types.Class n) = Some n
class_of_type types.Unknown = None

-- The data classes of the fields of a data class, by number.
abbrev pub classes_of_types : List TypeEntry → List ℕ
classes_of_types ts = filter_map class_of_type ts

-- The actor class that a reference names, if it names one.
abbrev pub class_of_reference : ReferenceEntry → Option ℕ
class_of_reference r = r.class

-- The actor classes of the references of an actor class, by number.
abbrev pub classes_of_container : Container → List ℕ
classes_of_container c = filter_map class_of_reference c.references

-- Rule 7. No data class contains itself.
unfoldable pub data_is_finite : ModelTree → Bool
data_is_finite m = not (contains_itself (map classes_of_types (data_types m)))

-- Rule 13. No actor class contains itself through references.
unfoldable pub actors_are_finite : ModelTree → Bool
actors_are_finite m = not (contains_itself (map classes_of_container (actor_containers (protocol_names m) (actor_names m) m.classes)))
