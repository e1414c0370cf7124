use Rattle.std.proofs.Common.{◌≡◌, min, take}
use Rattle.std.specs.List.{sum_by}
use Rattle.wiring_slots.specs.slot_tree.Sums.{cap, slot_count}
use Rattle.wiring_slots.proofs.slot_tree.places.capped_places.Given as goal

abbrev pub invariant-loop-slot : goal.invariant-loop-slot
invariant-loop-slot l = l.places ≡ min cap (sum_by (slot_count l.counts) (take l.slot-index l.slots))
