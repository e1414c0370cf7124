use Rattle.std.proofs.Common.{◌≡◌, ◌≤◌, ◌*◌, ◌++◌, drop}
use Rattle.wiring_places.specs.place_rules.Partners.{places_of_slots}
use Rattle.wiring_places.proofs.place_spans.places.all_places.Given as goal

abbrev pub invariant-loop-s : goal.invariant-loop-s
invariant-loop-s l = (l.row ≤ 65535 * l.s) × (l.places.items ++ places_of_slots l.plan l.counts l.s l.row (drop l.s l.slots) ≡ places_of_slots l.plan l.counts 0 0 l.slots)
