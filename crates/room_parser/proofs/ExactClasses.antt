-- Classes and models are read as their tokens are written, and nothing else is.
use Rattle.std.proofs.Common.{◌≡◌, ℕ, ◌<◌, Bool, true, false, List, [], ◌∷◌, ◌++◌, length, Option, Some, None, refl, ◌∙◌, append_assoc, arith}
use Rattle.room_lexer.specs.declared.token.Mark.TheVariants as marks
use Rattle.room_lexer.specs.declared.word.Word.{Word}
use Rattle.room_lexer.specs.declared.word.Word.TheVariants as words
use Rattle.room_kinds.specs.declared.structure.ReferenceKind.{ReferenceKind}
use Rattle.room_kinds.specs.declared.structure.ReferenceKind.TheVariants as kinds
use Rattle.room_ast.specs.Values.{TokenValue, AWord, AName, AMark}
use Rattle.room_ast.specs.Tokens.{each, maybe, word_if, ref_kind, section, import_tokens, interface_item, interface, structure_item, structure, machine, behavior, extends, actor_class, class_tokens, model_tokens}
use Rattle.room_ast.specs.Trees.{BehaviorTree, ActorTree, ClassTree, ASystem, ASubsystem, AnActor, AProtocol, AData, ModelTree}
use Rattle.room_ast.specs.declared.actor.InterfaceItem.{InterfaceItem}
use Rattle.room_ast.specs.declared.actor.InterfaceItem.TheVariants as interfaces
use Rattle.room_ast.specs.declared.actor.StructureItem.{StructureItem}
use Rattle.room_ast.specs.declared.actor.StructureItem.TheVariants as structures
use Rattle.room_ast.specs.declared.model.Import.{Import}
use Rattle.room_ast.specs.declared.protocol.UsercodeSection.{UsercodeSection}
use Rattle.room_ast.specs.declared.protocol.UsercodeSection.TheVariants as sections
use Rattle.room_tokens.specs.Reader.{reads_as, rest_of}
use Rattle.room_tokens.specs.Single.{comes, comes_word, comes_string, before_close, word_here}
use Rattle.room_tokens.proofs.Readers.{Anything}
use Rattle.room_tokens.proofs.Whole.{Reading}
use Rattle.room_tokens.proofs.Exact.{Exact, mark_exact, word_exact, name_exact, Exact-then, Exact-⊕, Exact-behind, Exact-before, Exact-as, Exact-maybe, Exact-many, Exact-flag, Exact-items, Begins, word_begins, case_takes, case_again, whole}
use Rattle.structure_parser.specs.value_parser.Names.{source_comes}
use Rattle.structure_parser.specs.value_parser.Values.{usercode_at}
use Rattle.structure_parser.specs.value_parser.Protocols.{protocol_at}
use Rattle.structure_parser.proofs.value_parser.ExactNames.{dotted_exact, import_exact, EndsImport}
use Rattle.structure_parser.proofs.value_parser.ExactValues.{attribute_exact, usercode_exact}
use Rattle.structure_parser.proofs.value_parser.ExactProtocols.{protocol_exact, data_class_exact}
use Rattle.structure_parser.specs.Ports.{port_at}
use Rattle.structure_parser.specs.References.{actor_ref_at}
use Rattle.structure_parser.proofs.ExactPorts.{port_exact, external_port_exact, provision_exact, access_exact, implementation_exact}
use Rattle.structure_parser.proofs.ExactReferences.{actor_ref_exact, binding_exact, layer_exact}
use Rattle.structure_parser.proofs.ExactSubsystems.{subsystem_exact, system_exact}
use Rattle.room_parser.proofs.chart_parser.ExactGraphs.{machine_exact}
use Rattle.room_parser.specs.Classes.{interface_item_from, interface_item_at, interface_at, structure_item_from, structure_item_at, structure_at, behavior_at, extends_at, actor_at, event_driven_from, event_driven_at, class_from, class_at, model_at, model}

-- ---- interfaces

interface_item_takes : (w : Option Word) (ts : List TokenValue) (z : InterfaceItem × List TokenValue) → interface_item_from w ts ≡ Some z → ts ≡ interface_item z.0 ++ z.1
interface_item_takes (Some words.Port) ts z e = case_takes interfaces.Port interface_item port_exact (λ x. refl) ts z e
interface_item_takes (Some words.Conjugated) ts z e = case_takes interfaces.Port interface_item port_exact (λ x. refl) ts z e
interface_item_takes (Some words.Spp) ts z e = case_takes interfaces.Service interface_item provision_exact (λ x. refl) ts z e
interface_item_takes w ts z e = absurd cc

interface_port : (c : Bool) (us rest : List TokenValue) → interface_item_at ((word_if words.Conjugated c ++ AWord words.Port ∷ us) ++ rest) ≡ reads_as interfaces.Port port_at ((word_if words.Conjugated c ++ AWord words.Port ∷ us) ++ rest)
unfolding interface_item_at word_here
interface_port true us rest = refl
interface_port false us rest = refl

interface_item_again : (i : InterfaceItem) (rest : List TokenValue) → Unit {0} → interface_item_at (interface_item i ++ rest) ≡ Some (i, rest)
unfolding interface_item_at word_here
interface_item_again (interfaces.Port p) rest any = interface_port p.conjugated _ rest ∙ case_again interfaces.Port port_exact p rest tt
interface_item_again (interfaces.Service s) rest any = case_again interfaces.Service provision_exact s rest tt

interface_item_exact : Exact interface_item_at interface_item Anything
unfolding interface_item_at
interface_item_exact = record { takes = λ ts z e. interface_item_takes (word_here ts) ts z e; again = interface_item_again }

interface_port_begins : (c : Bool) (us rest : List TokenValue) → Begins Anything (word_if words.Conjugated c ++ AWord words.Port ∷ us) rest
interface_port_begins true us rest = word_begins words.Conjugated _ rest tt
interface_port_begins false us rest = word_begins words.Port _ rest tt

interface_begins : (i : InterfaceItem) (rest : List TokenValue) → Begins Anything (interface_item i) rest
interface_begins (interfaces.Port p) rest = interface_port_begins p.conjugated _ rest
interface_begins (interfaces.Service s) rest = word_begins words.Spp _ rest tt

interface_exact : Exact interface_at interface Anything
unfolding interface_at
interface_exact = Exact-behind (word_exact words.Interface) (Exact-items interface_item_exact interface_begins (λ rest. tt))

-- ---- structures

-- what may follow an item: neither a value nor what goes on a binding's side
record EndsItem (rest : List TokenValue) : Type 0 where
  no_value : comes marks.Equals rest ≡ false
  no_dot : comes marks.Dot rest ≡ false

item_takes : (w : Option Word) (ts : List TokenValue) (z : StructureItem × List TokenValue) → structure_item_from w ts ≡ Some z → ts ≡ structure_item z.0 ++ z.1
item_takes (Some words.Usercode) ts z e = case_takes structures.Usercode structure_item usercode_exact (λ x. refl) ts z e
item_takes (Some words.Usercode1) ts z e = case_takes structures.Usercode structure_item usercode_exact (λ x. refl) ts z e
item_takes (Some words.Usercode2) ts z e = case_takes structures.Usercode structure_item usercode_exact (λ x. refl) ts z e
item_takes (Some words.Usercode3) ts z e = case_takes structures.Usercode structure_item usercode_exact (λ x. refl) ts z e
item_takes (Some words.External) ts z e = case_takes structures.External structure_item external_port_exact (λ x. refl) ts z e
item_takes (Some words.Port) ts z e = case_takes structures.Port structure_item port_exact (λ x. refl) ts z e
item_takes (Some words.Conjugated) ts z e = case_takes structures.Port structure_item port_exact (λ x. refl) ts z e
item_takes (Some words.Sap) ts z e = case_takes structures.Access structure_item access_exact (λ x. refl) ts z e
item_takes (Some words.ServiceImplementation) ts z e = case_takes structures.Implementation structure_item implementation_exact (λ x. refl) ts z e
item_takes (Some words.Attribute) ts z e = case_takes structures.Attribute structure_item attribute_exact (λ x. refl) ts z e
item_takes (Some words.ActorRef) ts z e = case_takes structures.Reference structure_item actor_ref_exact (λ x. refl) ts z e
item_takes (Some words.Fixed) ts z e = case_takes structures.Reference structure_item actor_ref_exact (λ x. refl) ts z e
item_takes (Some words.Optional) ts z e = case_takes structures.Reference structure_item actor_ref_exact (λ x. refl) ts z e
item_takes (Some words.Imported) ts z e = case_takes structures.Reference structure_item actor_ref_exact (λ x. refl) ts z e
item_takes (Some words.Binding) ts z e = case_takes structures.Binding structure_item binding_exact (λ x. refl) ts z e
item_takes (Some words.LayerConnection) ts z e = case_takes structures.Layer structure_item layer_exact (λ x. refl) ts z e
item_takes w ts z e = absurd cc

usercode_item : (s : UsercodeSection) (us : List TokenValue) → structure_item_at (AWord (section s) ∷ us) ≡ reads_as structures.Usercode usercode_at (AWord (section s) ∷ us)
unfolding structure_item_at word_here
usercode_item sections.Plain us = refl
usercode_item sections.First us = refl
usercode_item sections.Second us = refl
usercode_item sections.Third us = refl

port_item : (c : Bool) (us rest : List TokenValue) → structure_item_at ((word_if words.Conjugated c ++ AWord words.Port ∷ us) ++ rest) ≡ reads_as structures.Port port_at ((word_if words.Conjugated c ++ AWord words.Port ∷ us) ++ rest)
unfolding structure_item_at word_here
port_item true us rest = refl
port_item false us rest = refl

reference_item : (k : Option ReferenceKind) (us rest : List TokenValue)
    → structure_item_at ((maybe ref_kind k ++ AWord words.ActorRef ∷ us) ++ rest) ≡ reads_as structures.Reference actor_ref_at ((maybe ref_kind k ++ AWord words.ActorRef ∷ us) ++ rest)
unfolding structure_item_at word_here
reference_item None us rest = refl
reference_item (Some kinds.Fixed) us rest = refl
reference_item (Some kinds.Optional) us rest = refl
reference_item (Some kinds.Imported) us rest = refl

item_again : (i : StructureItem) (rest : List TokenValue) → EndsItem rest → structure_item_at (structure_item i ++ rest) ≡ Some (i, rest)
unfolding structure_item_at word_here
item_again (structures.Usercode u) rest ends = usercode_item u.section _ ∙ case_again structures.Usercode usercode_exact u rest tt
item_again (structures.External p) rest ends = case_again structures.External external_port_exact p rest tt
item_again (structures.Port p) rest ends = port_item p.conjugated _ rest ∙ case_again structures.Port port_exact p rest tt
item_again (structures.Access s) rest ends = case_again structures.Access access_exact s rest tt
item_again (structures.Implementation s) rest ends = case_again structures.Implementation implementation_exact s rest tt
item_again (structures.Attribute a) rest ends = case_again structures.Attribute attribute_exact a rest ends.no_value
item_again (structures.Reference r) rest ends = reference_item r.kind _ rest ∙ case_again structures.Reference actor_ref_exact r rest tt
item_again (structures.Binding b) rest ends = case_again structures.Binding binding_exact b rest ends.no_dot
item_again (structures.Layer l) rest ends = case_again structures.Layer layer_exact l rest tt

item_exact : Exact structure_item_at structure_item EndsItem
unfolding structure_item_at
item_exact = record { takes = λ ts z e. item_takes (word_here ts) ts z e; again = item_again }

begins : (w : Word) (us rest : List TokenValue) → Begins EndsItem (AWord w ∷ us) rest
unfolding comes
begins w us rest = word_begins w us rest (record { no_value = refl; no_dot = refl })

port_begins : (c : Bool) (us rest : List TokenValue) → Begins EndsItem (word_if words.Conjugated c ++ AWord words.Port ∷ us) rest
port_begins true us rest = begins words.Conjugated _ rest
port_begins false us rest = begins words.Port _ rest

reference_begins : (k : Option ReferenceKind) (us rest : List TokenValue) → Begins EndsItem (maybe ref_kind k ++ AWord words.ActorRef ∷ us) rest
reference_begins None us rest = begins words.ActorRef _ rest
reference_begins (Some kinds.Fixed) us rest = begins words.Fixed _ rest
reference_begins (Some kinds.Optional) us rest = begins words.Optional _ rest
reference_begins (Some kinds.Imported) us rest = begins words.Imported _ rest

item_begins : (i : StructureItem) (rest : List TokenValue) → Begins EndsItem (structure_item i) rest
item_begins (structures.Usercode u) rest = begins (section u.section) _ rest
item_begins (structures.External p) rest = begins words.External _ rest
item_begins (structures.Port p) rest = port_begins p.conjugated _ rest
item_begins (structures.Access s) rest = begins words.Sap _ rest
item_begins (structures.Implementation s) rest = begins words.ServiceImplementation _ rest
item_begins (structures.Attribute a) rest = begins words.Attribute _ rest
item_begins (structures.Reference r) rest = reference_begins r.kind _ rest
item_begins (structures.Binding b) rest = begins words.Binding _ rest
item_begins (structures.Layer l) rest = begins words.LayerConnection _ rest

structure_exact : Exact structure_at structure Anything
unfolding structure_at comes
structure_exact = Exact-behind (word_exact words.Structure) (Exact-items item_exact item_begins (λ rest. record { no_value = refl; no_dot = refl }))

-- ---- actor classes

behavior_exact : Exact behavior_at behavior Anything
unfolding behavior_at comes_word
behavior_exact =
    Exact-as _ (λ b. b.machine) behavior
    (Exact-behind (word_exact words.Behavior) (Exact-behind (mark_exact marks.OpenBrace) (Exact-before (Exact-maybe (comes_word words.StateMachine) machine_exact (λ g rest. refl)) (mark_exact marks.CloseBrace) (λ rest. (refl, tt)))))
    (λ x. refl) (λ y. refl)

no_interface : (s : Option (List StructureItem)) (b : Option BehaviorTree) (rest : List TokenValue) → comes_word words.Interface ((maybe structure s ++ (maybe behavior b ++ AMark marks.CloseBrace ∷ [])) ++ rest) ≡ false
unfolding comes_word
no_interface None None rest = refl
no_interface None (Some b) rest = refl
no_interface (Some s) b rest = refl

no_structure : (b : Option BehaviorTree) (rest : List TokenValue) → comes_word words.Structure ((maybe behavior b ++ AMark marks.CloseBrace ∷ []) ++ rest) ≡ false
unfolding comes_word
no_structure None rest = refl
no_structure (Some b) rest = refl

extends_exact : Exact extends_at extends Anything
unfolding extends_at
extends_exact = Exact-behind (word_exact words.Extends) name_exact

actor_exact : Exact actor_at actor_class Anything
unfolding actor_at comes_word
actor_exact =
    Exact-as _ (λ a. (a.event_driven, (a.name, (a.base, (a.interface, (a.structure, a.behavior)))))) actor_class
    (Exact-⊕ (Exact-flag (comes_word words.EventDriven) (word_if words.EventDriven) (word_exact words.EventDriven) refl refl (λ rest. refl))
    (Exact-behind (word_exact words.ActorClass) (Exact-then name_exact (Exact-⊕ (Exact-maybe (comes_word words.Extends) extends_exact (λ n rest. refl)) (Exact-behind (mark_exact marks.OpenBrace)
    (Exact-⊕ (Exact-maybe (comes_word words.Interface) interface_exact (λ i rest. refl))
    (Exact-⊕ (Exact-maybe (comes_word words.Structure) structure_exact (λ s rest. refl))
    (Exact-before (Exact-maybe (comes_word words.Behavior) behavior_exact (λ b rest. refl)) (mark_exact marks.CloseBrace) (λ rest. (refl, tt)))
    (λ b rest any. (no_structure b rest, tt)))
    (λ y rest any. (no_interface y.0 y.1 rest, tt))))
    (λ y rest any. (refl, tt)))))
    (λ y rest any. (refl, tt))) (λ x. refl) (λ y. refl)

-- ---- classes

event_driven_takes : (w : Option Word) (ts : List TokenValue) (z : ClassTree × List TokenValue) → event_driven_from w ts ≡ Some z → ts ≡ class_tokens z.0 ++ z.1
event_driven_takes (Some words.ActorClass) ts z e = case_takes AnActor class_tokens actor_exact (λ x. refl) ts z e
event_driven_takes (Some words.ProtocolClass) ts z e = case_takes AProtocol class_tokens protocol_exact (λ x. refl) ts z e
event_driven_takes w ts z e = absurd cc

class_takes : (w : Option Word) (ts : List TokenValue) (z : ClassTree × List TokenValue) → class_from w ts ≡ Some z → ts ≡ class_tokens z.0 ++ z.1
class_takes (Some words.LogicalSystem) ts z e = case_takes ASystem class_tokens system_exact (λ x. refl) ts z e
class_takes (Some words.SubSystemClass) ts z e = case_takes ASubsystem class_tokens subsystem_exact (λ x. refl) ts z e
class_takes (Some words.ActorClass) ts z e = case_takes AnActor class_tokens actor_exact (λ x. refl) ts z e
class_takes (Some words.ProtocolClass) ts z e = case_takes AProtocol class_tokens protocol_exact (λ x. refl) ts z e
class_takes (Some words.DataClass) ts z e = case_takes AData class_tokens data_class_exact (λ x. refl) ts z e
class_takes (Some words.EventDriven) ts z e = event_driven_takes (word_here (rest_of ts)) ts z e
class_takes w ts z e = absurd cc

actor_class_at : (e : Bool) (us rest : List TokenValue) → class_at ((word_if words.EventDriven e ++ AWord words.ActorClass ∷ us) ++ rest) ≡ reads_as AnActor actor_at ((word_if words.EventDriven e ++ AWord words.ActorClass ∷ us) ++ rest)
unfolding class_at word_here
actor_class_at true us rest = refl
actor_class_at false us rest = refl

protocol_class_at : (e : Bool) (us rest : List TokenValue) → class_at ((word_if words.EventDriven e ++ AWord words.ProtocolClass ∷ us) ++ rest) ≡ reads_as AProtocol protocol_at ((word_if words.EventDriven e ++ AWord words.ProtocolClass ∷ us) ++ rest)
unfolding class_at word_here
protocol_class_at true us rest = refl
protocol_class_at false us rest = refl

class_again : (c : ClassTree) (rest : List TokenValue) → Unit {0} → class_at (class_tokens c ++ rest) ≡ Some (c, rest)
unfolding class_at word_here
class_again (ASystem s) rest any = case_again ASystem system_exact s rest tt
class_again (ASubsystem s) rest any = case_again ASubsystem subsystem_exact s rest tt
class_again (AnActor a) rest any = actor_class_at a.event_driven _ rest ∙ case_again AnActor actor_exact a rest tt
class_again (AProtocol p) rest any = protocol_class_at p.event_driven _ rest ∙ case_again AProtocol protocol_exact p rest tt
class_again (AData d) rest any = case_again AData data_class_exact d rest tt

class_exact : Exact class_at class_tokens Anything
unfolding class_at
class_exact = record { takes = λ ts z e. class_takes (word_here ts) ts z e; again = class_again }

-- what may follow the imports: neither an import nor what goes one on
record EndsImports (rest : List TokenValue) : Type 0 where
  no_import : comes_word words.Import rest ≡ false
  ends : EndsImport rest

begins_class : (w : Word) (us rest : List TokenValue) → comes_word words.Import (AWord w ∷ us ++ rest) ≡ false → comes_word words.From (AWord w ∷ us ++ rest) ≡ false → Begins EndsImports (AWord w ∷ us) rest
unfolding comes comes_string source_comes
begins_class w us rest no_import no_from = word_begins w us rest (record { no_import = no_import; ends = record { no_dot = refl; no_source = rw no_from refl } })

actor_begins : (e : Bool) (us rest : List TokenValue) → Begins EndsImports (word_if words.EventDriven e ++ AWord words.ActorClass ∷ us) rest
unfolding comes_word
actor_begins true us rest = begins_class words.EventDriven _ rest refl refl
actor_begins false us rest = begins_class words.ActorClass _ rest refl refl

protocol_begins : (e : Bool) (us rest : List TokenValue) → Begins EndsImports (word_if words.EventDriven e ++ AWord words.ProtocolClass ∷ us) rest
unfolding comes_word
protocol_begins true us rest = begins_class words.EventDriven _ rest refl refl
protocol_begins false us rest = begins_class words.ProtocolClass _ rest refl refl

class_begins : (c : ClassTree) (rest : List TokenValue) → Begins EndsImports (class_tokens c) rest
unfolding comes_word
class_begins (ASystem s) rest = begins_class words.LogicalSystem _ rest refl refl
class_begins (ASubsystem s) rest = begins_class words.SubSystemClass _ rest refl refl
class_begins (AnActor a) rest = actor_begins a.event_driven _ rest
class_begins (AProtocol p) rest = protocol_begins p.event_driven _ rest
class_begins (AData d) rest = begins_class words.DataClass _ rest refl refl

classes_end : (cs : List ClassTree) (rest : List TokenValue) → EndsImports ((each class_tokens cs ++ AMark marks.CloseBrace ∷ []) ++ rest)
unfolding comes comes_word comes_string source_comes
classes_end [] rest = record { no_import = refl; ends = record { no_dot = refl; no_source = refl } }
classes_end (c ∷ cs) rest =
    let others = each class_tokens cs in
    let close = AMark marks.CloseBrace ∷ [] in
    rw (append_assoc (class_tokens c) others close, append_assoc (class_tokens c) (others ++ close) rest) ((class_begins c ((others ++ close) ++ rest)).follows)

-- ---- the model

import_begins : (i : Import) (rest : List TokenValue) → (comes_word words.Import (import_tokens i ++ rest) ≡ true) × EndsImport (import_tokens i ++ rest) × (0 < length (import_tokens i))
unfolding comes comes_word comes_string source_comes
import_begins i rest = (refl, record { no_dot = refl; no_source = refl }, omega arith)

model_exact : Exact model_at model_tokens Anything
unfolding model_at comes before_close
model_exact =
    Exact-as _ (λ m. (m.name, (m.imports, m.classes))) model_tokens
    (Exact-behind (word_exact words.RoomModel) (Exact-⊕ dotted_exact (Exact-behind (mark_exact marks.OpenBrace)
    (Exact-⊕ (Exact-many (comes_word words.Import) import_exact import_begins)
    (Exact-before (Exact-many before_close class_exact (λ c rest. let b = class_begins c rest in (b.goes_on, tt, b.some))) (mark_exact marks.CloseBrace) (λ rest. (refl, tt)))
    (λ cs rest any. let e = classes_end cs rest in (e.no_import, e.ends))))
    (λ y rest any. refl))) (λ x. refl) (λ y. refl)

-- the model of tokens is the tree that has them
pub reading : Reading model model_tokens
unfolding model
reading = whole model_exact tt
