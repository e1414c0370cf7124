use Rattle.std.proofs.Common.{◌-◌, [], length, map, reverse}
use Rattle.wiring_slots.specs.slot_tree.Placing.{all_from}
use Rattle.wiring_slots.specs.slot_tree.WaitingSlots.{pending_of, IsPlacing}
use Rattle.wiring_slots.proofs.slot_tree.slots.place.Given as goal

abbrev pub invariant-loop-waiting : goal.invariant-loop-waiting
invariant-loop-waiting l = IsPlacing l.plan l.names l.mappings (all_from l.plan l.names l.mappings 0 (map (pending_of l.names []) (reverse l.initial.stack.items))) l.placed (reverse l.stack.items)

abbrev pub decreases-loop-waiting : goal.decreases-loop-waiting
decreases-loop-waiting l = 4096 - length l.placed.slots.items
