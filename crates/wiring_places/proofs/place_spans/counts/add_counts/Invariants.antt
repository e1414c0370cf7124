use Rattle.std.proofs.Common.{◌≡◌, ◌^◌, ◌<◌, ◌++◌, drop, sum}
use Rattle.wiring_places.specs.binding_stretches.Taken.{taken_in}
use Rattle.wiring_places.specs.place_rules.Counts.{counts_of_ports}
use Rattle.wiring_places.proofs.place_spans.counts.add_counts.Given as goal

abbrev pub invariant-loop-p : goal.invariant-loop-p
invariant-loop-p l = record {
  few : sum (counts_of_ports (taken_in l.known.outside.now) (taken_in l.known.inside.now) (taken_in l.known.served.now) l.known.slot l.known.imported l.known.reference l.p (drop l.p l.ports)) < 2 ^ 32;
  counts : l.counts.items ++ counts_of_ports (taken_in l.known.outside.now) (taken_in l.known.inside.now) (taken_in l.known.served.now) l.known.slot l.known.imported l.known.reference l.p (drop l.p l.ports)
      ≡ l.initial.counts.items ++ counts_of_ports (taken_in l.known.outside.now) (taken_in l.known.inside.now) (taken_in l.known.served.now) l.known.slot l.known.imported l.known.reference 0 l.ports;
}
