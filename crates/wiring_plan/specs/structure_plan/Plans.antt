-- The structure of a model by number.
use Rattle.std.specs.Prelude.{List, [], map, Option, None}
use Rattle.std.specs.List.{filter_map}
use Rattle.std.specs.Option.{option_map_or}
use Rattle.room_ast.specs.Trees.{ModelTree, ActorTree, SubsystemTree, SubsystemItemTree, AReference, ABinding, ALayer, AThread, AMapping}
use Rattle.room_ast.specs.declared.actor.StructureItem.{StructureItem}
use Rattle.room_ast.specs.declared.actor.StructureItem.TheVariants as structures
use Rattle.room_ast.specs.model_parts.Classes.{actors, subsystems, systems, wired_name, actor_names, protocol_names}
use Rattle.room_ast.specs.model_parts.Ports.{structure_of}
use Rattle.check_tables.specs.class_tables.Containers.{actor_container, subsystem_container, tables_of}
use Rattle.check_tables.specs.declared.class_tables.container.Container.{Container}
use Rattle.wiring_plan.specs.structure_plan.Parts.{port_plan, reference_plan, binding_plan, layer_plan}
use Rattle.wiring_plan.specs.structure_plan.Steps.{first_named}
use Rattle.wiring_plan.specs.declared.structure_plan.plan.BindingPlan.{BindingPlan}
use Rattle.wiring_plan.specs.declared.structure_plan.plan.LayerPlan.{LayerPlan}
use Rattle.wiring_plan.specs.declared.structure_plan.plan.ClassPlan.{ClassPlan}
use Rattle.wiring_plan.specs.declared.structure_plan.plan.StructurePlan.{StructurePlan}

-- The binding that an item of a Structure is.
abbrev pub item_binding : List Container → Container → StructureItem → Option BindingPlan
item_binding actors c (structures.Usercode u) = None
item_binding actors c (structures.External e) = None
item_binding actors c (structures.Port p) = None
item_binding actors c (structures.Access s) = None
item_binding actors c (structures.Implementation i) = None
item_binding actors c (structures.Attribute a) = None
item_binding actors c (structures.Reference r) = None
item_binding actors c (structures.Binding b) = binding_plan actors c b
item_binding actors c (structures.Layer l) = None

-- The layer connection that an item of a Structure is.
abbrev pub item_layer : List Container → Container → StructureItem → Option LayerPlan
item_layer actors c (structures.Usercode u) = None
item_layer actors c (structures.External e) = None
item_layer actors c (structures.Port p) = None
item_layer actors c (structures.Access s) = None
item_layer actors c (structures.Implementation i) = None
item_layer actors c (structures.Attribute a) = None
item_layer actors c (structures.Reference r) = None
item_layer actors c (structures.Binding b) = None
item_layer actors c (structures.Layer l) = layer_plan actors c l

-- The binding that an item of a subsystem class is.
abbrev pub subsystem_binding : List Container → Container → SubsystemItemTree → Option BindingPlan
subsystem_binding actors c (AReference r) = None
subsystem_binding actors c (ABinding b) = binding_plan actors c b
subsystem_binding actors c (ALayer l) = None
subsystem_binding actors c (AThread t) = None
subsystem_binding actors c (AMapping m) = None

-- The layer connection that an item of a subsystem class is.
abbrev pub subsystem_layer : List Container → Container → SubsystemItemTree → Option LayerPlan
subsystem_layer actors c (AReference r) = None
subsystem_layer actors c (ABinding b) = None
subsystem_layer actors c (ALayer l) = layer_plan actors c l
subsystem_layer actors c (AThread t) = None
subsystem_layer actors c (AMapping m) = None

-- A class with these ports and references, bindings and layer connections.
abbrev pub class_plan : Container → List BindingPlan → List LayerPlan → ClassPlan
class_plan c bindings layers = record { ports = map port_plan c.ports; references = map reference_plan c.references; bindings = bindings; layers = layers }

-- The plan of an actor class with these items in its Structure.
abbrev pub actor_plan : List Container → Container → List StructureItem → ClassPlan
actor_plan actors c items = class_plan c (filter_map (item_binding actors c) items) (filter_map (item_layer actors c) items)

-- The plan of a subsystem class with these items.
abbrev pub subsystem_plan : List Container → Container → List SubsystemItemTree → ClassPlan
subsystem_plan actors c items = class_plan c (filter_map (subsystem_binding actors c) items) (filter_map (subsystem_layer actors c) items)

-- A class without anything.
abbrev pub no_plan : ClassPlan
no_plan = record { ports = []; references = []; bindings = []; layers = [] }

-- The subsystem class that is wired: the one that the first SubSystemRef of the first LogicalSystem names.
abbrev pub wired_subsystem : ModelTree → Option SubsystemTree
wired_subsystem m = option_map_or (λ name. first_named name (subsystems m)) (wired_name (systems m)) None

-- The structure of a model: its actor classes in order of declaration, and the subsystem class that is wired.
unfoldable pub plan_of : ModelTree → StructurePlan
plan_of m = record {
  classes = map (λ (a : ActorTree). actor_plan (tables_of m).actors (actor_container (protocol_names m) (actor_names m) a) (structure_of a)) (actors m);
  subsystem = option_map_or (λ (s : SubsystemTree). subsystem_plan (tables_of m).actors (subsystem_container (actor_names m) s) s.items) (wired_subsystem m) no_plan;
}
