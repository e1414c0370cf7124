-- The names of the actor classes, as one walk over the classes makes them.
use Rattle.std.specs.Prelude.{List, map}
use Rattle.std.specs.List.{filter_map}
use Rattle.room_kinds.specs.declared.number_type.NumberType.{NumberType}
use Rattle.room_ast.specs.Trees.{ClassTree, ActorTree}
use Rattle.room_wiring.specs.declared.names.ClassNames.{ClassNames}
use Rattle.room_wiring.specs.declared.names.SignalNames.{SignalNames}
use Rattle.room_ast.specs.model_parts.Attributes.{attributes_of}
use Rattle.room_ast.specs.model_parts.Classes.{as_actor, as_protocol}
use Rattle.check_tables.specs.declared.class_tables.container.Container.{Container}
use Rattle.check_tables.specs.declared.class_tables.tables.ClassNames.{ClassNames as TableNames}
use Rattle.check_tables.specs.declared.class_tables.tables.Tables.{Tables}
use Rattle.check_scopes.specs.declared.class_scopes.signals.SignalTable.{SignalTable}
use Rattle.check_scopes.specs.class_scopes.Signals.{map_table}
use Rattle.check_scopes.specs.class_scopes.ByKinds.{table_by}
use Rattle.wiring_plan.specs.structure_plan.Steps.{made}
use Rattle.wiring_plan.specs.wiring_classes.Labels.{label_of}
use Rattle.wiring_plan.specs.wiring_classes.States.{state_labels}
use Rattle.wiring_plan.specs.wiring_classes.Parts.{labelled, named, port_names_of, reference_names_of}
use Rattle.wiring_plan.specs.wiring_classes.ByKinds.{attribute_by}

-- The names of an actor class, where these are the messages that ports have and the types of the numbers of the data classes.
abbrev pub class_by : TableNames → SignalTable SignalNames → List (List NumberType) → Container → ActorTree → ClassNames
class_by names table kinds c a = record {
  name = label_of a.name;
  ports = named (port_names_of names.protocols table) c.port_names c.ports;
  references = named reference_names_of c.reference_names c.references;
  states = state_labels a;
  attributes = map (attribute_by names.data_classes kinds) (attributes_of a);
}

-- The names of the actor classes among classes, each with what it knows of its parts.
abbrev pub classes_by : TableNames → SignalTable SignalNames → List (List NumberType) → List ClassTree → List Container → List ClassNames
classes_by names table kinds classes parts = made as_actor (class_by names table kinds) classes parts

abbrev pub named_in : Tables → List (List NumberType) → List ClassTree → List ClassNames
named_in t kinds classes = classes_by t.names (map_table labelled (table_by t.names.data_classes kinds (filter_map as_protocol classes))) kinds classes t.actors
