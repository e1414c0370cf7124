-- The trees that hold a graph or a mapping, without where they lie in memory. Every other tree is seen as it is.
use Rattle.std.specs.Prelude.{ℕ, List, map, Option, option_map, Bool}
use Rattle.room_ast.specs.ChartTree.{GraphItems, graph_view}
use Rattle.room_ast.specs.MappingTree.{MappingTree, mapping_view}
use Rattle.room_ast.specs.declared.actor.ActorClass.{ActorClass}
use Rattle.room_ast.specs.declared.actor.ActorRef.{ActorRef}
use Rattle.room_ast.specs.declared.actor.Behavior.{Behavior}
use Rattle.room_ast.specs.declared.actor.Binding.{Binding}
use Rattle.room_ast.specs.declared.actor.InterfaceItem.{InterfaceItem}
use Rattle.room_ast.specs.declared.actor.LayerConnection.{LayerConnection}
use Rattle.room_ast.specs.declared.actor.StructureItem.{StructureItem}
use Rattle.room_ast.specs.declared.model.Class.{Class}
use Rattle.room_ast.specs.declared.model.Class.TheVariants as classes
use Rattle.room_ast.specs.declared.model.Dotted.{Dotted}
use Rattle.room_ast.specs.declared.model.Import.{Import}
use Rattle.room_ast.specs.declared.model.Model.{Model}
use Rattle.room_ast.specs.declared.protocol.DataClass.{DataClass}
use Rattle.room_ast.specs.declared.protocol.ProtocolClass.{ProtocolClass}
use Rattle.room_ast.specs.declared.system.LogicalThread.{LogicalThread}
use Rattle.room_ast.specs.declared.system.Subsystem.{Subsystem}
use Rattle.room_ast.specs.declared.system.SubsystemItem.{SubsystemItem}
use Rattle.room_ast.specs.declared.system.SubsystemItem.TheVariants as items
use Rattle.room_ast.specs.declared.system.System.{System}

-- the graph of a behavior, if it has a state machine
pub record BehaviorTree : Type 0 where
  pub machine : Option GraphItems

pub record ActorTree : Type 0 where
  pub event_driven : Bool
  pub name : List ℕ
  pub base : Option (List ℕ)
  pub interface : Option (List InterfaceItem)
  pub structure : Option (List StructureItem)
  pub behavior : Option BehaviorTree

pub data SubsystemItemTree : Type 0 where
  AReference : ActorRef → SubsystemItemTree
  ABinding : Binding → SubsystemItemTree
  ALayer : LayerConnection → SubsystemItemTree
  AThread : LogicalThread → SubsystemItemTree
  AMapping : MappingTree → SubsystemItemTree

pub record SubsystemTree : Type 0 where
  pub name : List ℕ
  pub items : List SubsystemItemTree

pub data ClassTree : Type 0 where
  ASystem : System → ClassTree
  ASubsystem : SubsystemTree → ClassTree
  AnActor : ActorTree → ClassTree
  AProtocol : ProtocolClass → ClassTree
  AData : DataClass → ClassTree

pub record ModelTree : Type 0 where
  pub name : Dotted
  pub imports : List Import
  pub classes : List ClassTree

-- ---- what the code's trees stand for

abbrev pub behavior_view : Behavior → BehaviorTree
behavior_view b = record { machine = option_map (λ m. graph_view m.items.items) b.machine }

abbrev pub actor_view : ActorClass → ActorTree
actor_view a = record { event_driven = a.event_driven; name = a.name; base = a.base; interface = a.interface; structure = a.structure; behavior = option_map behavior_view a.behavior }

abbrev pub subsystem_item_view : SubsystemItem → SubsystemItemTree
subsystem_item_view (items.Reference r) = AReference r
subsystem_item_view (items.Binding b) = ABinding b
subsystem_item_view (items.Layer l) = ALayer l
subsystem_item_view (items.Thread t) = AThread t
subsystem_item_view (items.Mapping m) = AMapping (mapping_view m)

abbrev pub subsystem_view : Subsystem → SubsystemTree
subsystem_view s = record { name = s.name; items = map subsystem_item_view s.items }

abbrev pub class_view : Class → ClassTree
class_view (classes.System s) = ASystem s
class_view (classes.Subsystem s) = ASubsystem (subsystem_view s)
class_view (classes.Actor a) = AnActor (actor_view a)
class_view (classes.Protocol p) = AProtocol p
class_view (classes.Data d) = AData d

abbrev pub model_view : Model → ModelTree
model_view m = record { name = m.name; imports = m.imports; classes = map class_view m.classes }
