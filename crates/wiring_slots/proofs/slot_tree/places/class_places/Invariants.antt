use Rattle.std.proofs.Common.{◌≡◌, min, take}
use Rattle.std.specs.List.{sum_by}
use Rattle.wiring_slots.specs.slot_tree.Places.{counted_at}
use Rattle.wiring_slots.specs.slot_tree.Sums.{cap}
use Rattle.wiring_slots.proofs.slot_tree.places.class_places.Given as goal

abbrev pub invariant-loop-port : goal.invariant-loop-port
invariant-loop-port l = l.places ≡ min cap (sum_by (counted_at l.kind) (take l.port-index l.ports))
