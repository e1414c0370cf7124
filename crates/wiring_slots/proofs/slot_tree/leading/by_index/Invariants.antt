use Rattle.std.proofs.Common.{◌≡◌, take}
use Rattle.std.specs.List.{flat_map}
use Rattle.wiring_slots.specs.slot_tree.Leading.{by_index}
use Rattle.wiring_slots.specs.slot_tree.Runs.{trails_of}
use Rattle.wiring_slots.proofs.slot_tree.leading.by_index.Given as goal

abbrev pub invariant-loop-run : goal.invariant-loop-run
invariant-loop-run l = l.lists.items ≡ by_index l.mappings l.reference l.count (flat_map trails_of (take l.run-index l.run-items))
