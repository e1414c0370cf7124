use Rattle.std.proofs.Common.{◌≡◌, ◌*◌, ◌++◌, drop}
use Rattle.wiring_places.specs.place_rules.Partners.{partners_from}
use Rattle.wiring_joins.proofs.place_joins.partners.partner_row.Given as goal

abbrev pub invariant-loop-place : goal.invariant-loop-place
invariant-loop-place l = (l.face ≡ 2 * l.place-index) × (l.all.items ++ partners_from l.places l.far l.face (drop l.place-index l.places) ≡ partners_from l.places l.far 0 l.places)
