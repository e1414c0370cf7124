-- The messages that ports have: those of each protocol class, and of the frame service.
use Rattle.std.specs.Prelude.{ℕ, Bool, true, false, List, [], ◌∷◌, map, replicate, option_and_then, unwrap_or, slice_get, codes, if◌then◌else◌}
use Rattle.room_kinds.specs.declared.number_type.NumberType.TheVariants as numbers
use Rattle.room_kinds.specs.declared.structure.PortKind.{PortKind}
use Rattle.room_kinds.specs.declared.structure.PortKind.TheVariants as kinds
use Rattle.room_ast.specs.Trees.{ModelTree}
use Rattle.room_ast.specs.declared.protocol.Message.{Message}
use Rattle.room_ast.specs.declared.protocol.ProtocolClass.{ProtocolClass}
use Rattle.room_ast.specs.declared.model_parts.entries.PortEntry.{PortEntry}
use Rattle.room_ast.specs.model_parts.Classes.{protocols}
use Rattle.room_ast.specs.model_parts.Types.{incoming_of, outgoing_of, message_numbers}
use Rattle.check_scopes.specs.class_scopes.Views.{SignalView}
use Rattle.check_scopes.specs.declared.class_scopes.signals.Signals.{Signals}
use Rattle.check_scopes.specs.declared.class_scopes.signals.SignalTable.{SignalTable}

-- ---- messages

-- A message of a protocol class: a parameter of a data class stands for the numbers of its fields in order.
abbrev pub signal_of : ModelTree → Message → SignalView
signal_of m x = record { name = x.name; numbers = message_numbers m x }

abbrev pub protocol_signals : ModelTree → ProtocolClass → Signals SignalView
protocol_signals m c = record { incoming = map (signal_of m) (incoming_of c); outgoing = map (signal_of m) (outgoing_of c) }

-- A message of the frame service with so many numbers, which are never reduced.
abbrev pub frame_signal : List ℕ → ℕ → SignalView
frame_signal name count = record { name = name; numbers = replicate count numbers.Plain }

-- The messages of the frame service.
unfoldable pub frame_signals : List SignalView
frame_signals =
    frame_signal (codes "created") 3 ∷ frame_signal (codes "destroyed") 3 ∷ frame_signal (codes "imported") 3 ∷ frame_signal (codes "ended") 3 ∷ frame_signal (codes "deported") 3
    ∷ frame_signal (codes "refused") 3 ∷ frame_signal (codes "registered") 1 ∷ frame_signal (codes "withdrawn") 1 ∷ frame_signal (codes "nameRefused") 2 ∷ []

-- The messages of the frame service come in at `frame`, and none goes out there.
abbrev pub frame_only : Signals SignalView
frame_only = record { incoming = frame_signals; outgoing = [] }

-- A port without a protocol class has no messages.
abbrev pub no_signals : {S : Type 0} → Signals S
no_signals = record { incoming = []; outgoing = [] }

-- The messages that the ports of a model have.
abbrev pub model_signals : ModelTree → SignalTable SignalView
model_signals m = record { frame = frame_only; none = no_signals; protocols = map (protocol_signals m) (protocols m) }

-- ---- the messages of a port

abbrev pub is_frame : PortKind → Bool
is_frame kinds.Frame = true
is_frame kinds.Relay = false
is_frame kinds.End = false
is_frame kinds.Internal = false
is_frame kinds.Sap = false
is_frame kinds.Spp = false

-- The messages of a port: at `frame` those of the frame service, else those of its protocol class.
abbrev pub signals_at : {S : Type 0} → SignalTable S → PortEntry → Signals S
signals_at t p = if is_frame p.kind then t.frame else unwrap_or (option_and_then (slice_get t.protocols) p.protocol) t.none

-- ---- the same of each message

abbrev pub map_signals : {S T : Type 0} → (S → T) → Signals S → Signals T
map_signals f s = record { incoming = map f s.incoming; outgoing = map f s.outgoing }

abbrev pub map_table : {S T : Type 0} → (S → T) → SignalTable S → SignalTable T
map_table f t = record { frame = map_signals f t.frame; none = map_signals f t.none; protocols = map (map_signals f) t.protocols }
