-- The rule on how many parts a model and its classes have.
use Rattle.std.specs.Prelude.{◌+◌, ◌&&◌, Bool, true, false, nat_le, List, length, count_by}
use Rattle.std.specs.List.{list_all, filter_map}
use Rattle.room_ast.specs.Trees.{ModelTree, ClassTree, ASystem, ASubsystem, AnActor, AProtocol, AData, ActorTree, SubsystemTree}
use Rattle.room_ast.specs.declared.protocol.ProtocolClass.{ProtocolClass}
use Rattle.room_ast.specs.model_parts.Attributes.{class_numbers}
use Rattle.room_ast.specs.model_parts.Charts.{state_count}
use Rattle.room_ast.specs.model_parts.Classes.{actors}
use Rattle.room_ast.specs.model_parts.Ports.{interface_of, structure_of, structure_name}
use Rattle.room_ast.specs.model_parts.References.{references_of, subsystem_references}
use Rattle.room_ast.specs.model_parts.Types.{incoming_of, outgoing_of}

-- Whether a class is counted: the LogicalSystem isn't.
abbrev pub is_counted : ClassTree → Bool
is_counted (ASystem s) = false
is_counted (ASubsystem s) = true
is_counted (AnActor a) = true
is_counted (AProtocol p) = true
is_counted (AData d) = true

-- There are at most 60,000 classes.
abbrev pub classes_are_few : List ClassTree → Bool
classes_are_few classes = nat_le (count_by is_counted classes) 60000

-- A protocol class has at most 60,000 messages, incoming and outgoing together.
abbrev pub messages_are_few : ProtocolClass → Bool
messages_are_few p = nat_le (length (incoming_of p) + length (outgoing_of p)) 60000

-- An actor class has at most 60,000 ports, service access points and service provision points together; `frame` isn't counted.
abbrev pub ports_are_few : ActorTree → Bool
ports_are_few a = nat_le (length (interface_of a) + length (filter_map structure_name (structure_of a))) 60000

-- An actor class has at most 60,000 references.
abbrev pub references_are_few : ActorTree → Bool
references_are_few a = nat_le (length (references_of a)) 60000

-- A subsystem class has at most 60,000 references.
abbrev pub subsystem_references_are_few : SubsystemTree → Bool
subsystem_references_are_few s = nat_le (length (subsystem_references s)) 60000

-- A chart has at most 60,000 states, those inside of states counted too.
abbrev pub states_are_few : ActorTree → Bool
states_are_few a = nat_le (state_count a) 60000

-- The attributes of an actor class stand together for at most 4,096 numbers.
abbrev pub numbers_are_few : ModelTree → ActorTree → Bool
numbers_are_few m a = nat_le (length (class_numbers m a)) 4096

-- Whether the parts of a class that are counted are few.
abbrev pub parts_are_few : ClassTree → Bool
parts_are_few (ASystem s) = true
parts_are_few (ASubsystem s) = subsystem_references_are_few s
parts_are_few (AnActor a) = ports_are_few a && references_are_few a && states_are_few a
parts_are_few (AProtocol p) = messages_are_few p
parts_are_few (AData d) = true

-- Rule 25. There are at most 60,000 classes, at most 60,000 messages in a protocol class, at most 60,000 ports, service access points and service provision points in an actor class, at most 60,000 references in an actor class or a subsystem class, at most 60,000 states in a chart, and the attributes of an actor class stand together for at most 4,096 numbers.
unfoldable pub has_few_parts : ModelTree → Bool
has_few_parts m = classes_are_few m.classes && list_all parts_are_few m.classes && list_all (numbers_are_few m) (actors m)
