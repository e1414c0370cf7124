use Rattle.std.proofs.Common.{◌≡◌, ◌++◌, drop, sum, take}
use Rattle.wiring_places.specs.place_rules.Counts.{spans_from}
use Rattle.wiring_places.proofs.place_spans.spans.spans_of.Given as goal

abbrev pub invariant-loop-count : goal.invariant-loop-count
invariant-loop-count l = (l.first ≡ sum (take l.count-index l.counts)) × (l.row.items ++ spans_from l.first (drop l.count-index l.counts) ≡ spans_from 0 l.counts)
