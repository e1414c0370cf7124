use Rattle.std.proofs.Common.{◌≡◌, ◌++◌, drop}
use Rattle.wiring_places.specs.place_rules.Partners.{places_of_ports}
use Rattle.wiring_places.proofs.place_spans.places.add_port_places.Given as goal

abbrev pub invariant-loop-p : goal.invariant-loop-p
invariant-loop-p l = l.places.items ++ places_of_ports l.imported l.slot l.counts l.row l.p (drop l.p l.ports) ≡ l.initial.places.items ++ places_of_ports l.imported l.slot l.counts l.row 0 l.ports
