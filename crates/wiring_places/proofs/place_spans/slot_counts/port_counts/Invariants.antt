use Rattle.std.proofs.Common.{◌≡◌, ◌++◌, drop, List}
use Rattle.wiring_places.specs.binding_stretches.Taken.{taken_in}
use Rattle.wiring_places.specs.declared.place_rules.place.LayerJoin.{LayerJoin}
use Rattle.wiring_places.specs.place_rules.Counts.{counts_of_slots, served_at}
use Rattle.wiring_places.proofs.place_spans.slot_counts.port_counts.Given as goal

abbrev pub invariant-loop-s : goal.invariant-loop-s
invariant-loop-s l = (joins : List LayerJoin) → taken_in l.served ≡ served_at joins → l.counts.items ++ counts_of_slots l.plan l.slots joins l.s (drop l.s l.slots) ≡ counts_of_slots l.plan l.slots joins 0 l.slots
