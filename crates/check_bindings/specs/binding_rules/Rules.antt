-- The rules on bindings and layer connections, each as a test of a model.
use Rattle.std.specs.Prelude.{Bool, true, ◌&&◌}
use Rattle.std.specs.List.{list_all}
use Rattle.room_ast.specs.Trees.{ModelTree, ActorTree, SubsystemTree, SubsystemItemTree, AReference, ABinding, ALayer, AThread, AMapping}
use Rattle.room_ast.specs.declared.actor.Binding.{Binding}
use Rattle.room_ast.specs.declared.actor.LayerConnection.{LayerConnection}
use Rattle.room_ast.specs.declared.actor.StructureItem.{StructureItem}
use Rattle.room_ast.specs.declared.actor.StructureItem.TheVariants as structures
use Rattle.room_ast.specs.model_parts.Classes.{actors, subsystems, actor_names, protocol_names}
use Rattle.room_ast.specs.model_parts.Ports.{structure_of}
use Rattle.check_tables.specs.declared.class_tables.container.Container.{Container}
use Rattle.check_tables.specs.class_tables.Containers.{actor_container, subsystem_container, tables_of}
use Rattle.check_bindings.specs.binding_rules.Bindings.{sides_exist, sides_agree, any_places_once}
use Rattle.check_bindings.specs.binding_rules.Layers.{layer_is_known}

-- Whether an item of a Structure passes a test of bindings, or one of layer connections; other items pass.
abbrev pub item_passes : (Binding → Bool) → (LayerConnection → Bool) → StructureItem → Bool
item_passes of_binding of_layer (structures.Usercode u) = true
item_passes of_binding of_layer (structures.External e) = true
item_passes of_binding of_layer (structures.Port p) = true
item_passes of_binding of_layer (structures.Access s) = true
item_passes of_binding of_layer (structures.Implementation i) = true
item_passes of_binding of_layer (structures.Attribute a) = true
item_passes of_binding of_layer (structures.Reference r) = true
item_passes of_binding of_layer (structures.Binding b) = of_binding b
item_passes of_binding of_layer (structures.Layer l) = of_layer l

-- The same of an item of a SubSystemClass.
abbrev pub subsystem_item_passes : (Binding → Bool) → (LayerConnection → Bool) → SubsystemItemTree → Bool
subsystem_item_passes of_binding of_layer (AReference r) = true
subsystem_item_passes of_binding of_layer (ABinding b) = of_binding b
subsystem_item_passes of_binding of_layer (ALayer l) = of_layer l
subsystem_item_passes of_binding of_layer (AThread t) = true
subsystem_item_passes of_binding of_layer (AMapping m) = true

-- Whether the bindings and the layer connections of an actor class pass tests, which are given what the class knows of its own ports and references.
abbrev pub actor_passes : (Container → Binding → Bool) → (Container → LayerConnection → Bool) → Container → ActorTree → Bool
actor_passes of_binding of_layer c a = list_all (item_passes (of_binding c) (of_layer c)) (structure_of a)

-- The same of a SubSystemClass.
abbrev pub subsystem_passes : (Container → Binding → Bool) → (Container → LayerConnection → Bool) → Container → SubsystemTree → Bool
subsystem_passes of_binding of_layer c s = list_all (subsystem_item_passes (of_binding c) (of_layer c)) s.items

-- Whether each binding and each layer connection passes a test, which is given what its class knows of its own ports and references.
abbrev pub each_connection : (Container → Binding → Bool) → (Container → LayerConnection → Bool) → ModelTree → Bool
each_connection of_binding of_layer m =
    list_all (λ (a : ActorTree). actor_passes of_binding of_layer (actor_container (protocol_names m) (actor_names m) a) a) (actors m)
    && list_all (λ (s : SubsystemTree). subsystem_passes of_binding of_layer (subsystem_container (actor_names m) s) s) (subsystems m)

-- Whether each binding passes a test.
abbrev pub each_binding : (Container → Binding → Bool) → ModelTree → Bool
each_binding test m = each_connection test (λ c l. true) m

-- Whether each layer connection passes a test.
abbrev pub each_layer : (Container → LayerConnection → Bool) → ModelTree → Bool
each_layer test m = each_connection (λ c b. true) test m

-- Each side of a binding names a relay port or an internal end port of the class itself, or an interface port of one of its references. A SubSystemClass has no ports, so only the second form stands there.
unfoldable pub binding_sides_exist : ModelTree → Bool
binding_sides_exist m = each_binding (sides_exist (tables_of m).actors) m

-- The two sides of a binding have one protocol and opposite directions, a relay port of the class itself seen from inside.
unfoldable pub binding_sides_agree : ModelTree → Bool
binding_sides_agree m = each_binding (sides_agree (tables_of m).actors) m

-- A side of a binding with `[*]` names no replicated reference, and not both sides have `[*]`.
unfoldable pub any_places_bind_once : ModelTree → Bool
any_places_bind_once m = each_binding (any_places_once (tables_of m).actors) m

-- A layer connection names a reference of its class that isn't imported, and a SPP of a reference of its class that is neither imported nor replicated.
unfoldable pub layers_are_known : ModelTree → Bool
layers_are_known m = each_layer (layer_is_known (tables_of m).actors) m
