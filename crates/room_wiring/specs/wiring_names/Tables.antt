-- The numbered names of a class.
use Rattle.std.specs.Prelude.{map}
use Rattle.room_wiring.specs.declared.names.ClassNames.{ClassNames}
use Rattle.room_wiring.specs.declared.wiring_names.class_names.ClassNumbers.{ClassNumbers}
use Rattle.room_wiring.specs.wiring_names.Lookup.{numbered, port_names, signal_table}

-- the names of its ports, of each port's signals, and the labels of its states
abbrev pub numbers_of_class : ClassNames → ClassNumbers
numbers_of_class c = record { ports = numbered (port_names c); signals = map signal_table c.ports; states = numbered c.states }
