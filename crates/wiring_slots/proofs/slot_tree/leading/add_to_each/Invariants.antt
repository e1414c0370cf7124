use Rattle.std.proofs.Common.{◌≡◌, ◌++◌, length, take, drop}
use Rattle.wiring_slots.specs.slot_tree.Leading.{added_to_each}
use Rattle.wiring_slots.specs.slot_tree.Runs.{trails_of}
use Rattle.wiring_slots.proofs.slot_tree.leading.add_to_each.Given as goal

abbrev pub invariant-loop-number : goal.invariant-loop-number
invariant-loop-number l = record {
  so_far : l.lists.items ≡ added_to_each (trails_of l.run) (take l.number l.initial.lists.items) ++ drop l.number l.initial.lists.items;
  end : l.number-end ≡ length l.initial.lists.items;
}
