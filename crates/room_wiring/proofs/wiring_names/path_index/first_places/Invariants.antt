use Rattle.std.proofs.Common.{map, take}
use Rattle.room_wiring.specs.declared.slot.Slot.{Slot}
use Rattle.room_wiring.specs.Paths.{hash_of}
use Rattle.room_wiring.specs.wiring_names.Hashes.{FindsFirst}
use Rattle.room_wiring.proofs.wiring_names.path_index.first_places.Given as goal

abbrev pub invariant-loop-s : goal.invariant-loop-s
invariant-loop-s l = FindsFirst l.first (map (λ (x : Slot). hash_of x.path) (take l.s l.wiring.slots))
