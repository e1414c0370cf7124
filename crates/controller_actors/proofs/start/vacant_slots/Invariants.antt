use Rattle.std.proofs.Common.{◌≡◌, replicate}
use Rattle.controller_actors.specs.Bodies.{vacant}
use Rattle.controller_actors.proofs.start.vacant_slots.Given as goal

abbrev pub invariant-loop-slot : goal.invariant-loop-slot
invariant-loop-slot l = l.slots.items ≡ replicate l._slot vacant
