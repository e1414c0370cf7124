-- The names of actor classes and of what belongs to them.
use Rattle.std.specs.Prelude.{ℕ, List, map, length}
use Rattle.room_ast.specs.Trees.{ModelTree, ActorTree}
use Rattle.room_ast.specs.declared.protocol.Attribute.{Attribute}
use Rattle.room_wiring.specs.declared.names.SignalNames.{SignalNames}
use Rattle.room_wiring.specs.declared.names.AttrNames.{AttrNames}
use Rattle.room_wiring.specs.declared.names.PortNames.{PortNames}
use Rattle.room_wiring.specs.declared.names.RefNames.{RefNames}
use Rattle.room_wiring.specs.declared.names.ClassNames.{ClassNames}
use Rattle.room_ast.specs.model_parts.Attributes.{attributes_of}
use Rattle.room_ast.specs.model_parts.Classes.{actors, actor_names, protocol_names, data_names}
use Rattle.room_ast.specs.model_parts.Types.{numbers_of, type_entry}
use Rattle.check_tables.specs.class_tables.Containers.{actor_container}
use Rattle.check_tables.specs.declared.class_tables.container.Container.{Container}
use Rattle.check_scopes.specs.declared.class_scopes.signals.SignalTable.{SignalTable}
use Rattle.check_scopes.specs.class_scopes.Signals.{model_signals, map_table}
use Rattle.wiring_plan.specs.structure_plan.Parts.{count32}
use Rattle.wiring_plan.specs.wiring_classes.Labels.{label_of}
use Rattle.wiring_plan.specs.wiring_classes.States.{state_labels}
use Rattle.wiring_plan.specs.wiring_classes.Parts.{labelled, named, port_names_of, reference_names_of}

-- The messages that the ports of a model have, their names as labels.
unfoldable pub labelled_signals : ModelTree → SignalTable SignalNames
labelled_signals m = map_table labelled (model_signals m)

-- An attribute, with how many numbers it stands for.
abbrev pub attribute_names : ModelTree → Attribute → AttrNames
attribute_names m a = record { name = label_of a.name; numbers = count32 (length (numbers_of m (type_entry (data_names m) a.type_name))) }

-- The attributes of a class, in order of declaration.
unfoldable pub attributes_in : ModelTree → ActorTree → List AttrNames
attributes_in m a = map (attribute_names m) (attributes_of a)

-- The ports of a class by number, `frame` first.
unfoldable pub ports_in : List (List ℕ) → SignalTable SignalNames → Container → List PortNames
ports_in names table c = named (port_names_of names table) c.port_names c.ports

-- The references of a class by number.
unfoldable pub references_in : Container → List RefNames
references_in c = named reference_names_of c.reference_names c.references

-- The names of an actor class.
unfoldable pub class_names : ModelTree → ActorTree → ClassNames
class_names m a = record {
  name = label_of a.name;
  ports = ports_in (protocol_names m) (labelled_signals m) (actor_container (protocol_names m) (actor_names m) a);
  references = references_in (actor_container (protocol_names m) (actor_names m) a);
  states = state_labels a;
  attributes = attributes_in m a;
}

-- The names of all actor classes, by number.
unfoldable pub classes_of : ModelTree → List ClassNames
classes_of m = map (class_names m) (actors m)
