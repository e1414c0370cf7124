-- What actions can name in a class, as lists, without where they lie in memory.
use Rattle.std.specs.Prelude.{ℕ, Bool, List, map}
use Rattle.room_kinds.specs.declared.number_type.NumberType.{NumberType}
use Rattle.room_kinds.specs.declared.structure.PortKind.{PortKind}
use Rattle.room_kinds.specs.declared.structure.ReferenceKind.{ReferenceKind}
use Rattle.room_ast.specs.declared.scope.Scope.{Scope}
use Rattle.room_ast.specs.declared.scope.ScopeAttribute.{ScopeAttribute}
use Rattle.room_ast.specs.declared.scope.ScopePort.{ScopePort}
use Rattle.room_ast.specs.declared.scope.ScopeReference.{ScopeReference}
use Rattle.room_ast.specs.declared.scope.ScopeSignal.{ScopeSignal}
use Rattle.room_ast.specs.model_parts.Attributes.{ClassNumber}

-- A message, with the types of its numbers.
pub record SignalView : Type 0 where
  pub name : List ℕ
  pub numbers : List NumberType

-- A port, with the messages of its protocol.
pub record PortView : Type 0 where
  pub name : List ℕ
  pub kind : PortKind
  pub conjugated : Bool
  pub incoming : List SignalView
  pub outgoing : List SignalView

-- A reference to an actor class.
pub record ReferenceView : Type 0 where
  pub name : List ℕ
  pub kind : ReferenceKind

-- A class as its actions see it: its numbers in the order in which they lie, its ports and its references by number.
pub record ScopeView : Type 0 where
  pub attributes : List ClassNumber
  pub ports : List PortView
  pub references : List ReferenceView

abbrev pub attribute_view : ScopeAttribute → ClassNumber
attribute_view a = record { path = a.path.items; kind = a.kind; initial = a.initial }

abbrev pub signal_view : ScopeSignal → SignalView
signal_view s = record { name = s.name; numbers = s.numbers.items }

abbrev pub port_view : ScopePort → PortView
port_view p = record { name = p.name; kind = p.kind; conjugated = p.conjugated; incoming = map signal_view p.incoming; outgoing = map signal_view p.outgoing }

abbrev pub reference_view : ScopeReference → ReferenceView
reference_view r = record { name = r.name; kind = r.kind }

abbrev pub scope_view : Scope → ScopeView
scope_view s = record { attributes = map attribute_view s.attributes.items; ports = map port_view s.ports.items; references = map reference_view s.references.items }
