-- The grammar of classes and of the whole model, read from left to right.
use Rattle.std.specs.Prelude.{ℕ, List, Option, Some, None}
use Rattle.room_lexer.specs.declared.token.Mark.TheVariants as marks
use Rattle.room_lexer.specs.declared.word.Word.{Word}
use Rattle.room_lexer.specs.declared.word.Word.TheVariants as words
use Rattle.room_ast.specs.Values.{TokenValue}
use Rattle.room_ast.specs.Trees.{BehaviorTree, ActorTree, ClassTree, ASystem, ASubsystem, AnActor, AProtocol, AData, ModelTree}
use Rattle.room_ast.specs.declared.actor.InterfaceItem.{InterfaceItem}
use Rattle.room_ast.specs.declared.actor.InterfaceItem.TheVariants as interfaces
use Rattle.room_ast.specs.declared.actor.StructureItem.{StructureItem}
use Rattle.room_ast.specs.declared.actor.StructureItem.TheVariants as structures
use Rattle.room_tokens.specs.Reader.{Reader, ◌⊕◌, ◌▹◌, ◌◃◌, reads_as, optional, flag, all_while, to_end, rest_of}
use Rattle.room_tokens.specs.Single.{comes_word, mark, word, name_at, word_here, before_close, braces_at}
use Rattle.structure_parser.specs.value_parser.Names.{dotted_at, import_at}
use Rattle.structure_parser.specs.value_parser.Values.{attribute_at, usercode_at}
use Rattle.structure_parser.specs.value_parser.Protocols.{protocol_at, data_class_at}
use Rattle.structure_parser.specs.Ports.{port_at, external_port_at, provision_at, access_at, implementation_at}
use Rattle.structure_parser.specs.References.{actor_ref_at, binding_at, layer_at}
use Rattle.structure_parser.specs.Mappings.{subsystem_at, system_at}
use Rattle.room_parser.specs.chart_parser.Graphs.{machine_at}

-- ---- actor classes

-- the item of an interface that begins with a word
abbrev pub interface_item_from : Option Word → Reader TokenValue InterfaceItem
interface_item_from (Some words.Port) ts = reads_as interfaces.Port port_at ts
interface_item_from (Some words.Conjugated) ts = reads_as interfaces.Port port_at ts
interface_item_from (Some words.Spp) ts = reads_as interfaces.Service provision_at ts
interface_item_from w ts = None

unfoldable pub interface_item_at : Reader TokenValue InterfaceItem
interface_item_at ts = interface_item_from (word_here ts) ts

-- "Interface" "{" { port | provision } "}"
unfoldable pub interface_at : Reader TokenValue (List InterfaceItem)
interface_at = word words.Interface ▹ braces_at interface_item_at

-- the item of a structure that begins with a word
abbrev pub structure_item_from : Option Word → Reader TokenValue StructureItem
structure_item_from (Some words.Usercode) ts = reads_as structures.Usercode usercode_at ts
structure_item_from (Some words.Usercode1) ts = reads_as structures.Usercode usercode_at ts
structure_item_from (Some words.Usercode2) ts = reads_as structures.Usercode usercode_at ts
structure_item_from (Some words.Usercode3) ts = reads_as structures.Usercode usercode_at ts
structure_item_from (Some words.External) ts = reads_as structures.External external_port_at ts
structure_item_from (Some words.Port) ts = reads_as structures.Port port_at ts
structure_item_from (Some words.Conjugated) ts = reads_as structures.Port port_at ts
structure_item_from (Some words.Sap) ts = reads_as structures.Access access_at ts
structure_item_from (Some words.ServiceImplementation) ts = reads_as structures.Implementation implementation_at ts
structure_item_from (Some words.Attribute) ts = reads_as structures.Attribute attribute_at ts
structure_item_from (Some words.ActorRef) ts = reads_as structures.Reference actor_ref_at ts
structure_item_from (Some words.Fixed) ts = reads_as structures.Reference actor_ref_at ts
structure_item_from (Some words.Optional) ts = reads_as structures.Reference actor_ref_at ts
structure_item_from (Some words.Imported) ts = reads_as structures.Reference actor_ref_at ts
structure_item_from (Some words.Binding) ts = reads_as structures.Binding binding_at ts
structure_item_from (Some words.LayerConnection) ts = reads_as structures.Layer layer_at ts
structure_item_from w ts = None

unfoldable pub structure_item_at : Reader TokenValue StructureItem
structure_item_at ts = structure_item_from (word_here ts) ts

-- "Structure" "{" { usercode | external | port | sap | impl | attribute | actorref | binding | layer } "}"
unfoldable pub structure_at : Reader TokenValue (List StructureItem)
structure_at = word words.Structure ▹ braces_at structure_item_at

-- "Behavior" "{" [ "StateMachine" "{" graph "}" ] "}"
unfoldable pub behavior_at : Reader TokenValue BehaviorTree
behavior_at = reads_as (λ x. record { machine = x }) (word words.Behavior ▹ mark marks.OpenBrace ▹ optional (comes_word words.StateMachine) machine_at ◃ mark marks.CloseBrace)

-- "extends" name
unfoldable pub extends_at : Reader TokenValue (List ℕ)
extends_at = word words.Extends ▹ name_at

-- [ "eventdriven" ] "ActorClass" name [ extends ] "{" [ interface ] [ structure ] [ behavior ] "}"
unfoldable pub actor_at : Reader TokenValue ActorTree
actor_at =
    reads_as (λ x. record { event_driven = x.0; name = x.1.0; base = x.1.1.0; interface = x.1.1.1.0; structure = x.1.1.1.1.0; behavior = x.1.1.1.1.1 })
    (flag (comes_word words.EventDriven) (word words.EventDriven) ⊕ word words.ActorClass ▹ name_at ⊕ optional (comes_word words.Extends) extends_at
    ⊕ mark marks.OpenBrace ▹ optional (comes_word words.Interface) interface_at ⊕ optional (comes_word words.Structure) structure_at ⊕ optional (comes_word words.Behavior) behavior_at ◃ mark marks.CloseBrace)

-- ---- the model

-- the class that goes on with a word behind "eventdriven"
abbrev pub event_driven_from : Option Word → Reader TokenValue ClassTree
event_driven_from (Some words.ActorClass) ts = reads_as AnActor actor_at ts
event_driven_from (Some words.ProtocolClass) ts = reads_as AProtocol protocol_at ts
event_driven_from w ts = None

-- "eventdriven" ( actor | protocol )
abbrev pub event_driven_at : Reader TokenValue ClassTree
event_driven_at ts = event_driven_from (word_here (rest_of ts)) ts

-- the class that begins with a word
abbrev pub class_from : Option Word → Reader TokenValue ClassTree
class_from (Some words.LogicalSystem) ts = reads_as ASystem system_at ts
class_from (Some words.SubSystemClass) ts = reads_as ASubsystem subsystem_at ts
class_from (Some words.ActorClass) ts = reads_as AnActor actor_at ts
class_from (Some words.ProtocolClass) ts = reads_as AProtocol protocol_at ts
class_from (Some words.DataClass) ts = reads_as AData data_class_at ts
class_from (Some words.EventDriven) ts = event_driven_at ts
class_from w ts = None

-- system | subsystem | actor | protocol | data
unfoldable pub class_at : Reader TokenValue ClassTree
class_at ts = class_from (word_here ts) ts

-- "RoomModel" dotted "{" { import } { class } "}"
unfoldable pub model_at : Reader TokenValue ModelTree
model_at =
    reads_as (λ x. record { name = x.0; imports = x.1.0; classes = x.1.1 })
    (word words.RoomModel ▹ dotted_at ⊕ mark marks.OpenBrace ▹ all_while (comes_word words.Import) import_at ⊕ all_while before_close class_at ◃ mark marks.CloseBrace)

-- the model that tokens are
unfoldable pub model : List TokenValue → Option ModelTree
model ts = to_end model_at ts
