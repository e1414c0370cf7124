use Rattle.std.proofs.Common.{◌≡◌, ◌++◌, map, drop}
use Rattle.std.specs.List.{range_with_len}
use Rattle.wiring_slots.specs.slot_tree.Leading.{by_index}
use Rattle.wiring_slots.specs.slot_tree.WaitingSlots.{waiting_at}
use Rattle.wiring_slots.proofs.slot_tree.children.add_reference.Given as goal

abbrev pub invariant-loop-index : goal.invariant-loop-index
invariant-loop-index l = record {
  children : l.children.items ≡ l.initial.children.items ++ map (waiting_at l.mappings l.container l.number l.reference) (range_with_len 0 l.index);
  lists : drop l.index l.lists.items ≡ drop l.index (by_index l.mappings l.number l.count l.trails);
}
