use Rattle.wiring_places.specs.place_spans.Containers.{AreSoFar}
use Rattle.wiring_places.proofs.place_spans.containers.container_stretches.Given as goal

abbrev pub invariant-loop-slot : goal.invariant-loop-slot
invariant-loop-slot l = AreSoFar l.plan l.slots l.slot-index l.containers.items
