-- The messages that ports have, by the types of the numbers of the data classes.
use Rattle.std.specs.Prelude.{ℕ, List, [], map}
use Rattle.std.specs.Option.{option_map_or}
use Rattle.room_kinds.specs.declared.number_type.NumberType.{NumberType}
use Rattle.room_ast.specs.declared.protocol.Message.{Message}
use Rattle.room_ast.specs.declared.protocol.Parameter.{Parameter}
use Rattle.room_ast.specs.declared.protocol.ProtocolClass.{ProtocolClass}
use Rattle.room_ast.specs.model_parts.Types.{type_entry, carried_type, incoming_of, outgoing_of}
use Rattle.check_scopes.specs.number_kinds.Kinds.{kinds_by}
use Rattle.check_scopes.specs.declared.class_scopes.signals.Signals.{Signals}
use Rattle.check_scopes.specs.declared.class_scopes.signals.SignalTable.{SignalTable}
use Rattle.check_scopes.specs.class_scopes.Signals.{frame_only, no_signals}
use Rattle.check_scopes.specs.class_scopes.Views.{SignalView}

-- The types of the numbers of a parameter. The first arguments are the names of the data classes and the types of their numbers.
abbrev pub parameter_kinds : List (List ℕ) → List (List NumberType) → Parameter → List NumberType
parameter_kinds names kinds p = option_map_or (λ (n : List ℕ). kinds_by kinds (type_entry names n)) (carried_type p) []

abbrev pub signal_by : List (List ℕ) → List (List NumberType) → Message → SignalView
signal_by names kinds x = record { name = x.name; numbers = parameter_kinds names kinds x.parameter }

abbrev pub signals_by : List (List ℕ) → List (List NumberType) → ProtocolClass → Signals SignalView
signals_by names kinds c = record { incoming = map (signal_by names kinds) (incoming_of c); outgoing = map (signal_by names kinds) (outgoing_of c) }

-- The messages that ports have where these are the protocol classes.
abbrev pub table_by : List (List ℕ) → List (List NumberType) → List ProtocolClass → SignalTable SignalView
table_by names kinds protocols = record { frame = frame_only; none = no_signals; protocols = map (signals_by names kinds) protocols }
