use Rattle.std.proofs.Common.{◌≡◌, ◌*◌, ◌++◌, drop}
use Rattle.wiring_places.specs.place_rules.Partners.{across_from}
use Rattle.wiring_joins.proofs.place_joins.across.across_row.Given as goal

abbrev pub invariant-loop-place : goal.invariant-loop-place
invariant-loop-place l = (l.face ≡ 2 * l.place-index) × (l.across.items ++ across_from l.face (drop l.place-index l.places) ≡ across_from 0 l.places)
