use Rattle.std.proofs.Common.{◌≡◌, ◌++◌, drop}
use Rattle.wiring_places.specs.place_rules.Layers.{slot_joins}
use Rattle.wiring_joins.proofs.layer_joins.joins.slot_joins.Given as goal

abbrev pub invariant-loop-s : goal.invariant-loop-s
invariant-loop-s l = l.joins.items ++ slot_joins l.plan l.slots l.s (drop l.s l.slots) ≡ slot_joins l.plan l.slots 0 l.slots
