use Rattle.std.proofs.Common.{◌≡◌, ◌++◌, ◌-◌}
use Rattle.wiring_places.specs.place_rules.Partners.{places_of_port}
use Rattle.wiring_places.proofs.place_spans.places.add_places.Given as goal

abbrev pub invariant-loop-place : goal.invariant-loop-place
invariant-loop-place l = l.places.items ++ places_of_port l.slot l.port l.role l.place (l.count - l.place) ≡ l.initial.places.items ++ places_of_port l.slot l.port l.role 0 l.count
