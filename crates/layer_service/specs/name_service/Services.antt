-- The service of a name and a protocol.
use Rattle.std.specs.Prelude.{ℕ, ◌==◌, ◌&&◌, Bool, if◌then◌else◌, [], ◌∷◌}
use Rattle.actor_duties.specs.State.{Service, NameTable}
use Rattle.actor_duties.specs.Names.{unmet}

-- whether a service has this name and protocol
abbrev pub is_called : ℕ → ℕ → Service → Bool
is_called name protocol s = (s.name == name) && (s.protocol == protocol)

-- the first service of a name and a protocol; one without anybody where there is none
abbrev pub service_called : ℕ → ℕ → NameTable → Service
service_called name protocol [] = unmet name protocol
service_called name protocol (s ∷ rest) = if is_called name protocol s then s else service_called name protocol rest
