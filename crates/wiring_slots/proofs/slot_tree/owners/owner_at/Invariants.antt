use Rattle.std.proofs.Common.{◌≡◌, take}
use Rattle.std.specs.List.{flat_map}
use Rattle.wiring_slots.specs.slot_tree.Owners.{owner_at}
use Rattle.wiring_slots.specs.slot_tree.Runs.{trails_of}
use Rattle.wiring_slots.proofs.slot_tree.owners.owner_at.Given as goal

abbrev pub invariant-loop-run : goal.invariant-loop-run
invariant-loop-run l = l.owner ≡ owner_at l.mappings l.fn.container_owner (flat_map trails_of (take l.run-index l.run-items))
