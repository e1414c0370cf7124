use Rattle.std.proofs.Common.{◌≡◌, ◌++◌, ◌+◌, ◌-◌, length}
use Rattle.wiring_places.specs.place_rules.Pairs.{container_pairs}
use Rattle.wiring_places.proofs.place_pairs.containers.container_pairs.Given as goal

abbrev pub invariant-loop-c : goal.invariant-loop-c
invariant-loop-c l = l.pairs.items ++ container_pairs l.plan l.slots l.first_ports l.spans l.c ((length l.slots + 1) - l.c) ≡ container_pairs l.plan l.slots l.first_ports l.spans 0 (length l.slots + 1)
