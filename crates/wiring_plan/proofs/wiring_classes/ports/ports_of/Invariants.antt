use Rattle.std.proofs.Common.{◌≡◌, ◌++◌, drop}
use Rattle.name_tables.specs.name_numbers.Names.{names_of}
use Rattle.wiring_plan.specs.wiring_classes.Parts.{named, port_names_of}
use Rattle.wiring_plan.proofs.wiring_classes.ports.ports_of.Given as goal

abbrev pub invariant-loop-name : goal.invariant-loop-name
invariant-loop-name l =
    l.all.items ++ named (port_names_of (names_of l.protocol_names) l.signals) (names_of (drop l.name-index l.names)) l.left ≡ named (port_names_of (names_of l.protocol_names) l.signals) (names_of l.names) l.ports
