use Rattle.std.proofs.Common.{◌≡◌, ◌++◌, length, reverse}
use Rattle.wiring_slots.proofs.slot_tree.slots.push_all.Given as goal

abbrev pub invariant-loop-slot : goal.invariant-loop-slot
invariant-loop-slot l = l.stack.items ++ reverse l.left.items ≡ l.initial.stack.items ++ reverse l.initial.left.items

abbrev pub decreases-loop-slot : goal.decreases-loop-slot
decreases-loop-slot l = length l.left.items
