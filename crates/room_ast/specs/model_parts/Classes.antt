-- The classes of a model by kind. Those of a kind are numbered from 0, in order of declaration.
use Rattle.std.specs.Prelude.{ℕ, List, [], ◌∷◌, map, Option, Some, None, position}
use Rattle.std.specs.List.{filter_map}
use Rattle.name_tables.specs.name_numbers.Names.{same}
use Rattle.room_ast.specs.Trees.{ModelTree, ClassTree, ASystem, ASubsystem, AnActor, AProtocol, AData, ActorTree, SubsystemTree}
use Rattle.room_ast.specs.declared.protocol.DataClass.{DataClass}
use Rattle.room_ast.specs.declared.protocol.ProtocolClass.{ProtocolClass}
use Rattle.room_ast.specs.declared.system.System.{System}
use Rattle.room_ast.specs.declared.system.SubsystemRef.{SubsystemRef}

-- The number of the first of these names that is this one, if one of them is.
abbrev pub number_in : List (List ℕ) → List ℕ → Option ℕ
number_in names name = position (same name) names

-- The name with which a class, or the LogicalSystem, is declared.
abbrev pub class_name : ClassTree → List ℕ
class_name (ASystem s) = s.name
class_name (ASubsystem s) = s.name
class_name (AnActor a) = a.name
class_name (AProtocol p) = p.name
class_name (AData d) = d.name

-- The names of all classes and of the LogicalSystem, in order of declaration.
abbrev pub class_names : ModelTree → List (List ℕ)
class_names m = map class_name m.classes

abbrev pub as_system : ClassTree → Option System
as_system (ASystem s) = Some s
as_system (ASubsystem s) = None
as_system (AnActor a) = None
as_system (AProtocol p) = None
as_system (AData d) = None

abbrev pub as_subsystem : ClassTree → Option SubsystemTree
as_subsystem (ASystem s) = None
as_subsystem (ASubsystem s) = Some s
as_subsystem (AnActor a) = None
as_subsystem (AProtocol p) = None
as_subsystem (AData d) = None

abbrev pub as_actor : ClassTree → Option ActorTree
as_actor (ASystem s) = None
as_actor (ASubsystem s) = None
as_actor (AnActor a) = Some a
as_actor (AProtocol p) = None
as_actor (AData d) = None

abbrev pub as_protocol : ClassTree → Option ProtocolClass
as_protocol (ASystem s) = None
as_protocol (ASubsystem s) = None
as_protocol (AnActor a) = None
as_protocol (AProtocol p) = Some p
as_protocol (AData d) = None

abbrev pub as_data : ClassTree → Option DataClass
as_data (ASystem s) = None
as_data (ASubsystem s) = None
as_data (AnActor a) = None
as_data (AProtocol p) = None
as_data (AData d) = Some d

-- The logical systems.
abbrev pub systems : ModelTree → List System
systems m = filter_map as_system m.classes

-- The subsystem classes.
abbrev pub subsystems : ModelTree → List SubsystemTree
subsystems m = filter_map as_subsystem m.classes

-- The actor classes.
abbrev pub actors : ModelTree → List ActorTree
actors m = filter_map as_actor m.classes

-- The protocol classes.
abbrev pub protocols : ModelTree → List ProtocolClass
protocols m = filter_map as_protocol m.classes

-- The data classes.
abbrev pub data_classes : ModelTree → List DataClass
data_classes m = filter_map as_data m.classes

-- The names of the subsystem classes among classes, by number.
unfoldable pub subsystem_names_in : List ClassTree → List (List ℕ)
subsystem_names_in classes = map (λ (s : SubsystemTree). s.name) (filter_map as_subsystem classes)

-- The names of the actor classes among classes, by number.
unfoldable pub actor_names_in : List ClassTree → List (List ℕ)
actor_names_in classes = map (λ (a : ActorTree). a.name) (filter_map as_actor classes)

-- The names of the protocol classes among classes, by number.
unfoldable pub protocol_names_in : List ClassTree → List (List ℕ)
protocol_names_in classes = map (λ (p : ProtocolClass). p.name) (filter_map as_protocol classes)

-- The names of the data classes among classes, by number.
unfoldable pub data_names_in : List ClassTree → List (List ℕ)
data_names_in classes = map (λ (d : DataClass). d.name) (filter_map as_data classes)

abbrev pub subsystem_names : ModelTree → List (List ℕ)
subsystem_names m = subsystem_names_in m.classes

abbrev pub actor_names : ModelTree → List (List ℕ)
actor_names m = actor_names_in m.classes

abbrev pub protocol_names : ModelTree → List (List ℕ)
protocol_names m = protocol_names_in m.classes

abbrev pub data_names : ModelTree → List (List ℕ)
data_names m = data_names_in m.classes

-- The class that the first SubSystemRef of the first LogicalSystem names.
abbrev pub first_reference : List SubsystemRef → Option (List ℕ)
first_reference [] = None
first_reference (r ∷ rs) = Some r.class

abbrev pub wired_name : List System → Option (List ℕ)
wired_name [] = None
wired_name (s ∷ ss) = first_reference s.references
