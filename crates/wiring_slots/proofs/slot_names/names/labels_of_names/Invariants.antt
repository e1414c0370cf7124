use Rattle.std.proofs.Common.{◌≡◌, ◌++◌, drop, map}
use Rattle.name_tables.specs.name_numbers.Names.{names_of}
use Rattle.wiring_plan.specs.wiring_classes.Labels.{label_of}
use Rattle.wiring_slots.proofs.slot_names.names.labels_of_names.Given as goal

abbrev pub invariant-loop-name : goal.invariant-loop-name
invariant-loop-name l = l.labels.items ++ map label_of (names_of (drop l.name-index l.names)) ≡ map label_of (names_of l.names)
