use Rattle.std.proofs.Common.{◌≡◌, ◌++◌, drop, map}
use Rattle.wiring_slots.specs.slot_names.Names.{labels_of}
use Rattle.wiring_slots.proofs.slot_names.names.all_labels.Given as goal

abbrev pub invariant-loop-class : goal.invariant-loop-class
invariant-loop-class l = l.labels.items ++ map labels_of (drop l.class-index l.classes) ≡ map labels_of l.classes
