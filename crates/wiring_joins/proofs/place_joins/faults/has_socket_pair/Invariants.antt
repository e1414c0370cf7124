use Rattle.std.proofs.Common.{◌≡◌, drop}
use Rattle.wiring_places.specs.place_rules.Partners.{any_joined, is_socket_pair}
use Rattle.wiring_joins.proofs.place_joins.faults.has_socket_pair.Given as goal

abbrev pub invariant-loop-i : goal.invariant-loop-i
invariant-loop-i l = any_joined is_socket_pair (drop l.i l.places) (drop l.i l.partners) ≡ any_joined is_socket_pair l.places l.partners
