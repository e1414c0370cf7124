-- How a journal names controllers, actors, ports, signals and states.
use Rattle.std.specs.Prelude.{ℕ, List, [], ◌∷◌, ◌==◌, nat_lt, if◌then◌else◌, Option, Some, None, length, slice_get, option_map, option_and_then, unwrap_or, codes, decimal}
use Rattle.room_kinds.specs.declared.numbers.Incarnation.{Incarnation}
use Rattle.room_kinds.specs.declared.numbers.Endpoint.{Endpoint}
use Rattle.room_kinds.specs.declared.message.Msg.{Msg}
use Rattle.room_kinds.specs.Names.{name_of, kind_at}
use Rattle.room_wiring.specs.declared.tables.Tables.{Tables}
use Rattle.room_wiring.specs.declared.names.ClassNames.{ClassNames}
use Rattle.room_wiring.specs.declared.names.PortNames.{PortNames}
use Rattle.room_wiring.specs.declared.names.SignalNames.{SignalNames}
use Rattle.room_wiring.specs.Slots.{class_of, port_at, path_text, port_text}
use Rattle.room_wiring.specs.WellNamed.{signals_of}

-- a controller's number, or the word for the environment, which has the number after the last
abbrev pub party_text : Tables → ℕ → List ℕ
party_text t c = if nat_lt c (length t.controllers) then decimal c else codes "env"

-- the label of a state of the slot's class, and `-` where the class has no such state
unfoldable pub state_text : Tables → ℕ → ℕ → List ℕ
state_text t s n = unwrap_or (option_and_then (λ (c : ClassNames). slice_get c.states n) (class_of t s)) (codes "-")

-- the name of the kind of system messages of a number
unfoldable pub kind_text : ℕ → List ℕ
kind_text n = unwrap_or (option_map name_of (kind_at n)) []

-- the name of a signal of a port: incoming ones are numbered first
unfoldable pub signal_of_port_text : PortNames → ℕ → List ℕ
signal_of_port_text p n = unwrap_or (option_map (λ (x : SignalNames). x.name) (slice_get (signals_of p) n)) []

-- the name of a signal of a port of a slot
unfoldable pub port_signal_text : Tables → ℕ → ℕ → ℕ → List ℕ
port_signal_text t s p n = unwrap_or (option_map (λ (x : PortNames). signal_of_port_text x n) (port_at t s p)) []

-- a message's signal: its kind at the system level, else a signal of the target's port
abbrev pub signal_text : Tables → Msg → List ℕ
signal_text t m = if m.prio.0 == 0 then kind_text m.signal else port_signal_text t m.target.slot.0 m.target.port m.signal

-- `path#generation`
abbrev pub incarnation_parts : Tables → Incarnation → List (List ℕ)
incarnation_parts t i = path_text t i.slot.0 ∷ codes "#" ∷ decimal i.generation.0 ∷ []

-- `path#generation.port[place]`
abbrev pub endpoint_parts : Tables → Endpoint → List (List ℕ)
endpoint_parts t e =
    path_text t e.slot.0 ∷ codes "#" ∷ decimal e.generation.0 ∷ codes "." ∷ port_text t e.slot.0 e.port
    ∷ codes "[" ∷ decimal e.place ∷ codes "]" ∷ []

-- an endpoint, or `-` where there is none
abbrev pub source_parts : Tables → Option Endpoint → List (List ℕ)
source_parts t None = codes "-" ∷ []
source_parts t (Some e) = endpoint_parts t e
