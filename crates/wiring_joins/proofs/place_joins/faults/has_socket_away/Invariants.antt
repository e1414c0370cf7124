use Rattle.std.proofs.Common.{◌≡◌, drop}
use Rattle.wiring_places.specs.place_rules.Partners.{any_joined, is_socket_away}
use Rattle.wiring_joins.proofs.place_joins.faults.has_socket_away.Given as goal

abbrev pub invariant-loop-i : goal.invariant-loop-i
invariant-loop-i l = any_joined (is_socket_away l.slots) (drop l.i l.places) (drop l.i l.partners) ≡ any_joined (is_socket_away l.slots) l.places l.partners
