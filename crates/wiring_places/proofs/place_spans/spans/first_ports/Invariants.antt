use Rattle.std.proofs.Common.{◌≡◌, ◌≤◌, ◌*◌, ◌++◌, drop}
use Rattle.wiring_places.specs.place_rules.Counts.{first_ports_from}
use Rattle.wiring_places.proofs.place_spans.spans.first_ports.Given as goal

abbrev pub invariant-loop-slot : goal.invariant-loop-slot
invariant-loop-slot l = (l.row ≤ 65535 * l.slot-index) × (l.rows.items ++ first_ports_from l.plan l.row (drop l.slot-index l.slots) ≡ first_ports_from l.plan 0 l.slots)
