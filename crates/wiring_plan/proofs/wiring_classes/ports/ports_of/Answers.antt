use Rattle.std.proofs.Common.{drop, arith}
use Rattle.name_tables.specs.name_numbers.Names.{names_of}
use Rattle.wiring_plan.specs.wiring_classes.Parts.{port_names_of}
use Rattle.wiring_plan.proofs.wiring_classes.Named.{named_stops}
use Rattle.wiring_plan.proofs.wiring_classes.ports.ports_of.Goals as goal

pub returns-in_default : goal.returns-in_default
returns-in_default c =
    named_stops (port_names_of (names_of c.args.protocol_names.now) c.args.signals.now) (names_of (drop c.loop-name.name-index c.args.names.now)) c.loop-name.left.now c.loop-name.all.items _ (omega arith) c.loop-name.invariant
