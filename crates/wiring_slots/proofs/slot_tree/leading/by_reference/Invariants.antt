use Rattle.std.proofs.Common.{◌≡◌, take}
use Rattle.std.specs.List.{flat_map}
use Rattle.wiring_slots.specs.slot_tree.Leading.{by_reference}
use Rattle.wiring_slots.specs.slot_tree.Runs.{trails_of}
use Rattle.wiring_slots.proofs.slot_tree.leading.by_reference.Given as goal

abbrev pub invariant-loop-run : goal.invariant-loop-run
invariant-loop-run l = l.lists.items ≡ by_reference l.mappings l.count (flat_map trails_of (take l.run-index l.run-items))
