use Rattle.std.proofs.Common.{◌≡◌, ◌++◌, drop, map}
use Rattle.wiring_slots.specs.slot_tree.Sums.{counts_of}
use Rattle.wiring_slots.proofs.slot_tree.places.all_counts.Given as goal

abbrev pub invariant-loop-class : goal.invariant-loop-class
invariant-loop-class l = l.counts.items ++ map counts_of (drop l.class-index l.classes) ≡ map counts_of l.classes
