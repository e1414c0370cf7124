-- The actors that numbers stand for.
use Rattle.std.specs.Prelude.{nat_lt, Option, Some, None, length, if◌then◌else◌}
use Rattle.room_kinds.specs.declared.numbers.Incarnation.{Incarnation}
use Rattle.room_wiring.specs.declared.tables.Tables.{Tables}

-- an actor, if its slot is there
abbrev pub home_there : Tables → Option Incarnation → Option Incarnation
home_there t None = None
home_there t (Some h) = if nat_lt h.slot.0 (length t.slots) then Some h else None
