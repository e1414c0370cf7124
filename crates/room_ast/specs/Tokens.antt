-- The tokens of each tree, from left to right.
use Rattle.std.specs.Prelude.{ℕ, List, [], ◌∷◌, ◌++◌, Option, Some, None, Bool, true, false}
use Rattle.room_lexer.specs.declared.token.Mark.{Mark}
use Rattle.room_lexer.specs.declared.token.Mark.TheVariants as marks
use Rattle.room_lexer.specs.declared.word.Word.{Word}
use Rattle.room_lexer.specs.declared.word.Word.TheVariants as words
use Rattle.room_ast.specs.Values.{TokenValue, AWord, AName, ANumber, AString, ABlock, AMark, spelled}
use Rattle.room_ast.specs.ChartTree.{GraphItemTree, AState, AChoice, APoint, ATransition, ARefinement, ChangeTree, OfState, OfTransition, StateTree, StateOf, BodyTree, no_body, body, SubgraphTree, no_subgraph, subgraph, GraphItems, no_items, item}
use Rattle.room_ast.specs.MappingTree.{MappingTree, MappingOf, NestedTree, no_braces, in_braces, Mappings, no_mappings, mapping}
use Rattle.room_ast.specs.Trees.{BehaviorTree, ActorTree, SubsystemItemTree, AReference, ABinding, ALayer, AThread, AMapping, SubsystemTree, ClassTree, ASystem, ASubsystem, AnActor, AProtocol, AData, ModelTree}
use Rattle.room_ast.specs.declared.actor.ActorRef.{ActorRef}
use Rattle.room_ast.specs.declared.actor.Binding.{Binding}
use Rattle.room_ast.specs.declared.actor.ExternalPort.{ExternalPort}
use Rattle.room_ast.specs.declared.actor.InterfaceItem.{InterfaceItem}
use Rattle.room_ast.specs.declared.actor.InterfaceItem.TheVariants as interfaces
use Rattle.room_ast.specs.declared.actor.LayerConnection.{LayerConnection}
use Rattle.room_ast.specs.declared.actor.Places.{Places}
use Rattle.room_ast.specs.declared.actor.Places.TheVariants as places
use Rattle.room_ast.specs.declared.actor.Port.{Port}
use Rattle.room_kinds.specs.declared.structure.ReferenceKind.{ReferenceKind}
use Rattle.room_kinds.specs.declared.structure.ReferenceKind.TheVariants as refs
use Rattle.room_ast.specs.declared.actor.ServiceAccess.{ServiceAccess}
use Rattle.room_ast.specs.declared.actor.ServiceImplementation.{ServiceImplementation}
use Rattle.room_ast.specs.declared.actor.ServiceProvision.{ServiceProvision}
use Rattle.room_ast.specs.declared.actor.Side.{Side}
use Rattle.room_ast.specs.declared.actor.Side.TheVariants as sides
use Rattle.room_ast.specs.declared.actor.StructureItem.{StructureItem}
use Rattle.room_ast.specs.declared.actor.StructureItem.TheVariants as structures
use Rattle.room_ast.specs.declared.chart.ChoicePoint.{ChoicePoint}
use Rattle.room_ast.specs.declared.chart.Code.{Code}
use Rattle.room_ast.specs.declared.chart.Code.TheVariants as code
use Rattle.room_ast.specs.declared.chart.CodeText.{CodeText}
use Rattle.room_ast.specs.declared.chart.CodeText.TheVariants as texts
use Rattle.room_ast.specs.declared.chart.Event.{Event}
use Rattle.room_ast.specs.declared.chart.EventMessage.{EventMessage}
use Rattle.room_ast.specs.declared.chart.EventMessage.TheVariants as messages
use Rattle.room_ast.specs.declared.chart.Point.{Point}
use Rattle.room_ast.specs.declared.chart.PointKind.{PointKind}
use Rattle.room_ast.specs.declared.chart.PointKind.TheVariants as points
use Rattle.room_ast.specs.declared.chart.Source.{Source}
use Rattle.room_ast.specs.declared.chart.Source.TheVariants as sources
use Rattle.room_ast.specs.declared.chart.Target.{Target}
use Rattle.room_ast.specs.declared.chart.Target.TheVariants as targets
use Rattle.room_ast.specs.declared.chart.Transition.{Transition}
use Rattle.room_ast.specs.declared.chart.TransitionBody.{TransitionBody}
use Rattle.room_ast.specs.declared.chart.Trigger.{Trigger}
use Rattle.room_ast.specs.declared.chart.Triggers.{Triggers}
use Rattle.room_ast.specs.declared.model.Dotted.{Dotted}
use Rattle.room_ast.specs.declared.model.Import.{Import}
use Rattle.room_ast.specs.declared.model.ImportSource.{ImportSource}
use Rattle.room_ast.specs.declared.protocol.Attribute.{Attribute}
use Rattle.room_ast.specs.declared.protocol.DataClass.{DataClass}
use Rattle.room_ast.specs.declared.protocol.DataItem.{DataItem}
use Rattle.room_ast.specs.declared.protocol.DataItem.TheVariants as fields
use Rattle.room_ast.specs.declared.protocol.EmptyString.{EmptyString}
use Rattle.room_ast.specs.declared.protocol.Message.{Message}
use Rattle.room_ast.specs.declared.protocol.Parameter.{Parameter}
use Rattle.room_ast.specs.declared.protocol.Parameter.TheVariants as parameters
use Rattle.room_ast.specs.declared.protocol.PlainValue.{PlainValue}
use Rattle.room_ast.specs.declared.protocol.PlainValue.TheVariants as plain
use Rattle.room_ast.specs.declared.protocol.ProtocolClass.{ProtocolClass}
use Rattle.room_ast.specs.declared.protocol.Usercode.{Usercode}
use Rattle.room_ast.specs.declared.protocol.UsercodeSection.{UsercodeSection}
use Rattle.room_ast.specs.declared.protocol.UsercodeSection.TheVariants as sections
use Rattle.room_ast.specs.declared.protocol.Value.{Value}
use Rattle.room_ast.specs.declared.protocol.Value.TheVariants as values
use Rattle.room_ast.specs.declared.system.LogicalThread.{LogicalThread}
use Rattle.room_ast.specs.declared.system.MappingPath.{MappingPath}
use Rattle.room_ast.specs.declared.system.Segment.{Segment}
use Rattle.room_ast.specs.declared.system.SubsystemRef.{SubsystemRef}
use Rattle.room_ast.specs.declared.system.System.{System}

-- one list and then another, grouped to the right
infixr 30 ◌then◌
abbrev pub ◌then◌ : List TokenValue → List TokenValue → List TokenValue
xs then ys = xs ++ ys

abbrev pub word : Word → List TokenValue
word w = AWord w ∷ []

abbrev pub mark : Mark → List TokenValue
mark m = AMark m ∷ []

abbrev pub name : List ℕ → List TokenValue
name n = AName n ∷ []

abbrev pub number : ℕ → List TokenValue
number n = ANumber n ∷ []

-- a STRING with these contents
abbrev pub string : List ℕ → List TokenValue
string text = AString text (spelled text) ∷ []

-- the tokens of each, one after another
abbrev pub each : {V A : Type 0} → (A → List V) → List A → List V
each out [] = []
each out (x ∷ xs) = out x ++ each out xs

-- the tokens of what may be missing
abbrev pub maybe : {V A : Type 0} → (A → List V) → Option A → List V
maybe out None = []
maybe out (Some x) = out x

-- a word that may be missing
abbrev pub word_if : Word → Bool → List TokenValue
word_if w true = word w
word_if w false = []

-- the tokens of each, in braces
abbrev pub braces : {A : Type 0} → (A → List TokenValue) → List A → List TokenValue
braces out xs = mark marks.OpenBrace then each out xs then mark marks.CloseBrace

-- ---- names and imports

abbrev pub dot_name : List ℕ → List TokenValue
dot_name n = mark marks.Dot then name n

abbrev pub dotted : Dotted → List TokenValue
dotted d = name d.first then each dot_name d.others

abbrev pub all_if : Bool → List TokenValue
all_if true = mark marks.Dot then mark marks.Star
all_if false = []

abbrev pub import_source : ImportSource → List TokenValue
import_source s = word_if words.From s.has_word then string s.text

abbrev pub import_tokens : Import → List TokenValue
import_tokens i = word words.Import then dotted i.path then all_if i.all then maybe import_source i.source

-- ---- values and usercode

abbrev pub plain_value : PlainValue → List TokenValue
plain_value (plain.Number n) = number n
plain_value (plain.Negative n) = mark marks.Minus then number n
plain_value plain.True = word words.True
plain_value plain.False = word words.False

abbrev pub value_tokens : Value → List TokenValue
value_tokens (values.Plain v) = plain_value v
value_tokens (values.Quoted text v) = AString text (Some v) ∷ []

abbrev pub equals_value : Value → List TokenValue
equals_value v = mark marks.Equals then value_tokens v

abbrev pub attribute : Attribute → List TokenValue
attribute a = word words.Attribute then name a.name then mark marks.Colon then name a.type_name then maybe equals_value a.value

abbrev pub section : UsercodeSection → Word
section sections.Plain = words.Usercode
section sections.First = words.Usercode1
section sections.Second = words.Usercode2
section sections.Third = words.Usercode3

abbrev pub empty_string : EmptyString → List TokenValue
empty_string s = string []

abbrev pub usercode : Usercode → List TokenValue
usercode u = word (section u.section) then braces empty_string u.strings

-- ---- protocols and data classes

abbrev pub parameter : Parameter → List TokenValue
parameter parameters.Absent = []
parameter parameters.Empty = mark marks.OpenParen then mark marks.CloseParen
parameter (parameters.Typed t) = mark marks.OpenParen then name t then mark marks.CloseParen
parameter (parameters.Labelled label t) = mark marks.OpenParen then name label then mark marks.Colon then name t then mark marks.CloseParen

abbrev pub message : Message → List TokenValue
message m = word words.Message then name m.name then parameter m.parameter

abbrev pub incoming : List Message → List TokenValue
incoming ms = word words.Incoming then braces message ms

abbrev pub outgoing : List Message → List TokenValue
outgoing ms = word words.Outgoing then braces message ms

abbrev pub protocol_class : ProtocolClass → List TokenValue
protocol_class p =
    word_if words.EventDriven p.event_driven then word words.ProtocolClass then name p.name then mark marks.OpenBrace then each usercode p.usercodes then maybe incoming p.incoming
    then maybe outgoing p.outgoing then mark marks.CloseBrace

abbrev pub data_item : DataItem → List TokenValue
data_item (fields.Usercode u) = usercode u
data_item (fields.Attribute a) = attribute a

abbrev pub data_class : DataClass → List TokenValue
data_class d = word words.DataClass then name d.name then braces data_item d.items

-- ---- the system and its subsystems

abbrev pub subsystem_ref : SubsystemRef → List TokenValue
subsystem_ref r = word words.SubSystemRef then name r.name then mark marks.Colon then name r.class

abbrev pub system : System → List TokenValue
system s = word words.LogicalSystem then name s.name then braces subsystem_ref s.references

abbrev pub index_tokens : ℕ → List TokenValue
index_tokens n = mark marks.Colon then number n

abbrev pub segment : Segment → List TokenValue
segment s = name s.name then maybe index_tokens s.index

abbrev pub slash_if : Bool → List TokenValue
slash_if true = mark marks.Slash
slash_if false = []

abbrev pub slash_segment : Segment → List TokenValue
slash_segment s = mark marks.Slash then segment s

abbrev pub mapping_path : MappingPath → List TokenValue
mapping_path p = slash_if p.has_slash then segment p.first then each slash_segment p.others

abbrev mutual
  pub mapping_tokens : MappingTree → List TokenValue
  mapping_tokens (MappingOf path thread nested) = word words.ActorInstanceMapping then mapping_path path then mark marks.Arrow then name thread then nested_tokens nested

  pub nested_tokens : NestedTree → List TokenValue
  nested_tokens no_braces = []
  nested_tokens (in_braces ms) = mark marks.OpenBrace then mappings_tokens ms then mark marks.CloseBrace

  pub mappings_tokens : Mappings → List TokenValue
  mappings_tokens no_mappings = []
  mappings_tokens (mapping m ms) = mapping_tokens m ++ mappings_tokens ms

-- ---- actor references, bindings and layer connections

abbrev pub ref_kind : ReferenceKind → List TokenValue
ref_kind refs.Fixed = word words.Fixed
ref_kind refs.Optional = word words.Optional
ref_kind refs.Imported = word words.Imported

abbrev pub in_brackets : ℕ → List TokenValue
in_brackets n = mark marks.OpenBracket then number n then mark marks.CloseBracket

abbrev pub actor_ref : ActorRef → List TokenValue
actor_ref r = maybe ref_kind r.kind then word words.ActorRef then name r.name then maybe in_brackets r.count then mark marks.Colon then name r.class

abbrev pub side : Side → List TokenValue
side (sides.Own port) = name port
side (sides.Inner reference port) = name reference then mark marks.Dot then name port

abbrev pub binding : Binding → List TokenValue
binding b = word words.Binding then side b.left then word words.And then side b.right

abbrev pub layer : LayerConnection → List TokenValue
layer l = word words.LayerConnection then word words.Ref then name l.reference then word words.SatisfiedBy then name l.provider then mark marks.Dot then name l.service

abbrev pub thread : LogicalThread → List TokenValue
thread t = word words.LogicalThread then name t.name

abbrev pub subsystem_item : SubsystemItemTree → List TokenValue
subsystem_item (AReference r) = actor_ref r
subsystem_item (ABinding b) = binding b
subsystem_item (ALayer l) = layer l
subsystem_item (AThread t) = thread t
subsystem_item (AMapping m) = mapping_tokens m

abbrev pub subsystem : SubsystemTree → List TokenValue
subsystem s = word words.SubSystemClass then name s.name then braces subsystem_item s.items

-- ---- ports and services

abbrev pub places_tokens : Places → List TokenValue
places_tokens (places.Number n) = mark marks.OpenBracket then number n then mark marks.CloseBracket
places_tokens places.Any = mark marks.OpenBracket then mark marks.Star then mark marks.CloseBracket

abbrev pub port : Port → List TokenValue
port p = word_if words.Conjugated p.conjugated then word words.Port then name p.name then maybe places_tokens p.places then mark marks.Colon then name p.protocol

abbrev pub external_port : ExternalPort → List TokenValue
external_port e = word words.External then word words.Port then name e.name

abbrev pub provision : ServiceProvision → List TokenValue
provision s = word words.Spp then name s.name then mark marks.Colon then name s.protocol

abbrev pub access : ServiceAccess → List TokenValue
access s = word words.Sap then name s.name then mark marks.Colon then name s.protocol

abbrev pub implementation : ServiceImplementation → List TokenValue
implementation i = word words.ServiceImplementation then word words.Of then name i.name

abbrev pub interface_item : InterfaceItem → List TokenValue
interface_item (interfaces.Port p) = port p
interface_item (interfaces.Service s) = provision s

abbrev pub structure_item : StructureItem → List TokenValue
structure_item (structures.Usercode u) = usercode u
structure_item (structures.External e) = external_port e
structure_item (structures.Port p) = port p
structure_item (structures.Access s) = access s
structure_item (structures.Implementation i) = implementation i
structure_item (structures.Attribute a) = attribute a
structure_item (structures.Reference r) = actor_ref r
structure_item (structures.Binding b) = binding b
structure_item (structures.Layer l) = layer l

-- ---- charts

abbrev pub code_text : CodeText → List TokenValue
code_text (texts.Str text) = string text
code_text (texts.Block text) = ABlock text ∷ []

abbrev pub code_tokens : Code → List TokenValue
code_tokens (code.Texts ts) = braces code_text ts
code_tokens (code.Single t) = code_text t

-- a word and then code
abbrev pub word_code : Word → Code → List TokenValue
word_code w c = word w then code_tokens c

abbrev pub event_message : EventMessage → List TokenValue
event_message (messages.Named n) = name n
event_message messages.Imported = word words.Imported

abbrev pub event : Event → List TokenValue
event e = event_message e.message then mark marks.Colon then name e.port

abbrev pub bar_event : Event → List TokenValue
bar_event e = mark marks.Bar then event e

abbrev pub trigger : Trigger → List TokenValue
trigger t = mark marks.Less then event t.first then each bar_event t.others then maybe (word_code words.Guard) t.guard then mark marks.Greater

abbrev pub or_trigger : Trigger → List TokenValue
or_trigger t = word words.Or then trigger t

abbrev pub triggers : Triggers → List TokenValue
triggers t = word words.Triggers then mark marks.OpenBrace then trigger t.first then each or_trigger t.others then mark marks.CloseBrace

abbrev pub target : Target → List TokenValue
target (targets.Bare n) = name n
target (targets.Choice n) = word words.Cp then name n
target (targets.My n) = word words.My then name n
target (targets.Of p s) = name p then word words.Of then name s

abbrev pub source : Source → List TokenValue
source sources.Initial = word words.Initial
source (sources.At t) = target t

abbrev pub transition_body : TransitionBody → List TokenValue
transition_body b = mark marks.OpenBrace then maybe triggers b.triggers then maybe (word_code words.Cond) b.condition then maybe (word_code words.Action) b.action then mark marks.CloseBrace

abbrev pub transition : Transition → List TokenValue
transition t = word words.Transition then maybe name t.name then mark marks.Colon then source t.source then mark marks.Arrow then target t.target then maybe transition_body t.body

abbrev pub choice_point : ChoicePoint → List TokenValue
choice_point c = word words.ChoicePoint then name c.name

abbrev pub point_word : PointKind → Word
point_word points.Transition = words.TransitionPoint
point_word points.Entry = words.EntryPoint
point_word points.Exit = words.ExitPoint

abbrev pub point : Point → List TokenValue
point p = word (point_word p.kind) then name p.name

-- a body in braces, where these are the tokens of its subgraph
abbrev pub in_body : Option Code → Option Code → List TokenValue → List TokenValue
in_body entry exit sub = mark marks.OpenBrace then maybe (word_code words.Entry) entry then maybe (word_code words.Exit) exit then sub then mark marks.CloseBrace

abbrev mutual
  pub graph_item : GraphItemTree → List TokenValue
  graph_item (AState s) = state_tokens s
  graph_item (AChoice c) = choice_point c
  graph_item (APoint p) = point p
  graph_item (ATransition t) = transition t
  graph_item (ARefinement path change) = refinement_tokens path change

  pub state_tokens : StateTree → List TokenValue
  state_tokens (StateOf n b) = word words.State then name n then body_tokens b

  pub body_tokens : BodyTree → List TokenValue
  body_tokens no_body = []
  body_tokens (body entry exit sub) = in_body entry exit (subgraph_tokens sub)

  pub refinement_tokens : Dotted → ChangeTree → List TokenValue
  refinement_tokens path (OfState entry exit sub) = word words.RefinedState then dotted path then in_body entry exit (subgraph_tokens sub)
  refinement_tokens path (OfTransition c) = word words.RefinedTransition then dotted path then mark marks.OpenBrace then word_code words.Action c then mark marks.CloseBrace

  pub subgraph_tokens : SubgraphTree → List TokenValue
  subgraph_tokens no_subgraph = []
  subgraph_tokens (subgraph items) = word words.Subgraph then mark marks.OpenBrace then graph_tokens items then mark marks.CloseBrace

  pub graph_tokens : GraphItems → List TokenValue
  graph_tokens no_items = []
  graph_tokens (item i is) = graph_item i ++ graph_tokens is

-- ---- actor classes

abbrev pub interface : List InterfaceItem → List TokenValue
interface is = word words.Interface then braces interface_item is

abbrev pub structure : List StructureItem → List TokenValue
structure is = word words.Structure then braces structure_item is

abbrev pub machine : GraphItems → List TokenValue
machine g = word words.StateMachine then mark marks.OpenBrace then graph_tokens g then mark marks.CloseBrace

abbrev pub behavior : BehaviorTree → List TokenValue
behavior b = word words.Behavior then mark marks.OpenBrace then maybe machine b.machine then mark marks.CloseBrace

abbrev pub extends : List ℕ → List TokenValue
extends base = word words.Extends then name base

abbrev pub actor_class : ActorTree → List TokenValue
actor_class a =
    word_if words.EventDriven a.event_driven then word words.ActorClass then name a.name then maybe extends a.base then mark marks.OpenBrace then maybe interface a.interface
    then maybe structure a.structure then maybe behavior a.behavior then mark marks.CloseBrace

-- ---- the model

abbrev pub class_tokens : ClassTree → List TokenValue
class_tokens (ASystem s) = system s
class_tokens (ASubsystem s) = subsystem s
class_tokens (AnActor a) = actor_class a
class_tokens (AProtocol p) = protocol_class p
class_tokens (AData d) = data_class d

-- the tokens of a model
abbrev pub model_tokens : ModelTree → List TokenValue
model_tokens m = word words.RoomModel then dotted m.name then mark marks.OpenBrace then each import_tokens m.imports then each class_tokens m.classes then mark marks.CloseBrace
