use Rattle.std.proofs.Common.{◌≡◌, length}
use Rattle.std.specs.Prelude.{slice_get}
use Rattle.wiring_places.specs.place_rules.Layers.{service, slot_if}
use Rattle.wiring_joins.proofs.layer_joins.service.service.Given as goal

abbrev pub invariant-loop-left : goal.invariant-loop-left
invariant-loop-left l = service l.plan l.slots l.left l.protocol (slot_if l.slots l.at) ≡ service l.plan l.slots (length l.slots) l.protocol (slice_get l.slots l.slot)

abbrev pub decreases-loop-left : goal.decreases-loop-left
decreases-loop-left l = l.left
