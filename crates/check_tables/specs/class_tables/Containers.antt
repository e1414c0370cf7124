-- What classes know of their parts by number, for a whole model.
use Rattle.std.specs.Prelude.{ℕ, List, [], map}
use Rattle.std.specs.List.{filter_map}
use Rattle.room_ast.specs.Trees.{ModelTree, ClassTree, ActorTree, SubsystemTree, SubsystemItemTree}
use Rattle.room_ast.specs.declared.actor.InterfaceItem.{InterfaceItem}
use Rattle.room_ast.specs.declared.actor.StructureItem.{StructureItem}
use Rattle.room_ast.specs.model_parts.Classes.{as_actor, as_subsystem, actor_names_in, protocol_names_in, data_names_in, subsystem_names_in}
use Rattle.room_ast.specs.model_parts.Ports.{interface_of, structure_of, names_in, ports_in}
use Rattle.room_ast.specs.model_parts.References.{references_in, as_subsystem_reference, reference_entry, names_of_references}
use Rattle.room_ast.specs.model_parts.Types.{data_types_in}
use Rattle.check_tables.specs.declared.class_tables.container.Container.{Container}
use Rattle.check_tables.specs.declared.class_tables.tables.ClassNames.{ClassNames}
use Rattle.check_tables.specs.declared.class_tables.tables.Tables.{Tables}

-- The ports and references by number of a class with these items in its Interface and its Structure. The first arguments are the names of the protocol classes and of the actor classes.
abbrev pub container_in : List (List ℕ) → List (List ℕ) → List InterfaceItem → List StructureItem → Container
container_in protocols actors interface structure = record {
  port_names = names_in interface structure;
  ports = ports_in protocols interface structure;
  reference_names = names_of_references (references_in structure);
  references = map (reference_entry actors) (references_in structure);
}

-- The ports and references of an actor class by number.
abbrev pub actor_container : List (List ℕ) → List (List ℕ) → ActorTree → Container
actor_container protocols actors a = container_in protocols actors (interface_of a) (structure_of a)

-- The references by number of a subsystem class with these items.
abbrev pub container_of_items : List (List ℕ) → List SubsystemItemTree → Container
container_of_items actors items = record {
  port_names = [];
  ports = [];
  reference_names = names_of_references (filter_map as_subsystem_reference items);
  references = map (reference_entry actors) (filter_map as_subsystem_reference items);
}

-- The references of a subsystem class by number; it has no ports.
abbrev pub subsystem_container : List (List ℕ) → SubsystemTree → Container
subsystem_container actors s = container_of_items actors s.items

-- What each actor class among classes knows of its parts.
unfoldable pub actor_containers : List (List ℕ) → List (List ℕ) → List ClassTree → List Container
actor_containers protocols actors classes = map (actor_container protocols actors) (filter_map as_actor classes)

-- What each subsystem class among classes knows of its parts.
unfoldable pub subsystem_containers : List (List ℕ) → List ClassTree → List Container
subsystem_containers actors classes = map (subsystem_container actors) (filter_map as_subsystem classes)

-- The names of classes by kind and number.
unfoldable pub class_names : List ClassTree → ClassNames
class_names classes = record { data_classes = data_names_in classes; protocols = protocol_names_in classes; actors = actor_names_in classes; subsystems = subsystem_names_in classes }

-- Classes by kind and number, with what they know of their parts, where these are their names.
unfoldable pub tables_with : ClassNames → List ClassTree → Tables
tables_with names classes = record {
  names = names;
  data_types = data_types_in names.data_classes classes;
  actors = actor_containers names.protocols names.actors classes;
  subsystems = subsystem_containers names.actors classes;
}

-- Classes by kind and number, with what they know of their parts.
abbrev pub tables_in : List ClassTree → Tables
tables_in classes = tables_with (class_names classes) classes

-- The classes of a model by kind and number, with what they know of their parts.
abbrev pub tables_of : ModelTree → Tables
tables_of m = tables_in m.classes
