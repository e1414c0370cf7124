-- Wirings whose ports have numbers.
use Rattle.std.specs.Prelude.{ℕ, ◌≤◌}
use Rattle.room_wiring.specs.declared.tables.Tables.{Tables}
use Rattle.room_wiring.specs.Places.{port_count}

-- each port of each slot has a number of 16 bits (the rules on models allow 60,000 ports)
abbrev pub ArePortsNumbered : Tables → Type 0
ArePortsNumbered t = (s : ℕ) → port_count t s ≤ 65536
