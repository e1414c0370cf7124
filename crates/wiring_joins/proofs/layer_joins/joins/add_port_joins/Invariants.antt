use Rattle.std.proofs.Common.{◌≡◌, ◌++◌, drop}
use Rattle.wiring_places.specs.place_rules.Layers.{port_joins}
use Rattle.wiring_joins.proofs.layer_joins.joins.add_port_joins.Given as goal

abbrev pub invariant-loop-p : goal.invariant-loop-p
invariant-loop-p l = l.joins.items ++ port_joins l.plan l.slots l.slot l.p (drop l.p l.ports) ≡ l.initial.joins.items ++ port_joins l.plan l.slots l.slot 0 l.ports
