use Rattle.std.proofs.Common.{◌≡◌, ◌++◌, drop}
use Rattle.wiring_slots.specs.slot_tree.PlacedSlots.{with_paths}
use Rattle.wiring_slots.proofs.slot_tree.placed_slots.with_paths.Given as goal

abbrev pub invariant-loop-number : goal.invariant-loop-number
invariant-loop-number l = l.named.items ++ with_paths (drop l.number l.paths) (drop l.number l.slots) ≡ with_paths l.paths l.slots
