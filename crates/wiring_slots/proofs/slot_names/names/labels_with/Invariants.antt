use Rattle.std.proofs.Common.{◌≡◌, ◌++◌, drop}
use Rattle.name_tables.specs.name_numbers.Names.{names_of}
use Rattle.wiring_plan.specs.wiring_classes.Parts.{named}
use Rattle.wiring_slots.specs.slot_names.Names.{reference_label}
use Rattle.wiring_slots.proofs.slot_names.names.labels_with.Given as goal

abbrev pub invariant-loop-name : goal.invariant-loop-name
invariant-loop-name l = l.labels.items ++ named reference_label (names_of (drop l.name-index l.names)) l.left ≡ named reference_label (names_of l.names) l.references
