use Rattle.std.proofs.Common.{◌≡◌, map, take}
use Rattle.room_wiring.specs.wiring_names.Lookup.{signal_table}
use Rattle.room_wiring.proofs.wiring_names.class_names.signals.Given as goal

abbrev pub invariant-loop-port : goal.invariant-loop-port
invariant-loop-port l = l.all ≡ map signal_table (take l.port-index l.ports)
