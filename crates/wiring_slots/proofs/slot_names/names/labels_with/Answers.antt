use Rattle.std.proofs.Common.{drop, arith}
use Rattle.name_tables.specs.name_numbers.Names.{names_of}
use Rattle.wiring_slots.specs.slot_names.Names.{reference_label}
use Rattle.wiring_plan.proofs.wiring_classes.Named.{named_stops}
use Rattle.wiring_slots.proofs.slot_names.names.labels_with.Goals as goal

pub returns-in_default : goal.returns-in_default
returns-in_default c = named_stops reference_label (names_of (drop c.loop-name.name-index c.args.names.now)) c.loop-name.left.now c.loop-name.labels.items _ (omega arith) c.loop-name.invariant
