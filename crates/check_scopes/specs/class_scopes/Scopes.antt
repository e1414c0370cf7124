-- What the actions of an actor class can name, by the syntax tree.
use Rattle.std.specs.Prelude.{ℕ, List, map}
use Rattle.std.specs.List.{zip}
use Rattle.room_ast.specs.Trees.{ModelTree, ActorTree}
use Rattle.room_ast.specs.declared.actor.ActorRef.{ActorRef}
use Rattle.room_ast.specs.model_parts.Attributes.{class_numbers}
use Rattle.room_ast.specs.model_parts.Classes.{protocol_names}
use Rattle.room_ast.specs.model_parts.Ports.{ports_of, port_names}
use Rattle.room_ast.specs.model_parts.References.{references_of, kind_of}
use Rattle.room_ast.specs.declared.model_parts.entries.PortEntry.{PortEntry}
use Rattle.check_scopes.specs.declared.class_scopes.signals.Signals.{Signals}
use Rattle.check_scopes.specs.declared.class_scopes.signals.SignalTable.{SignalTable}
use Rattle.check_scopes.specs.class_scopes.Signals.{model_signals, signals_at}
use Rattle.check_scopes.specs.class_scopes.Views.{SignalView, PortView, ReferenceView, ScopeView}

-- ---- ports

-- A port of a name, with these messages.
abbrev pub port_with : List ℕ → PortEntry → Signals SignalView → PortView
port_with name p s = record { name = name; kind = p.kind; conjugated = p.conjugated; incoming = s.incoming; outgoing = s.outgoing }

-- Ports of these names, by number. The first argument is the messages that ports have.
abbrev pub ports_in : SignalTable SignalView → List (List ℕ) → List PortEntry → List PortView
ports_in table names entries = map (λ (x : List ℕ × PortEntry). port_with x.0 x.1 (signals_at table x.1)) (zip names entries)

-- ---- the whole

-- A reference, with its kind.
abbrev pub reference_of : ActorRef → ReferenceView
reference_of r = record { name = r.name; kind = kind_of r }

-- What the actions of an actor class can name: the numbers of its attributes, `frame` and its ports, and its references, each by number.
unfoldable pub scope_of : ModelTree → ActorTree → ScopeView
scope_of m a = record {
  attributes = class_numbers m a;
  ports = ports_in (model_signals m) (port_names a) (ports_of (protocol_names m) a);
  references = map reference_of (references_of a);
}
