use Rattle.std.proofs.Common.{◌≡◌, ℕ, take}
use Rattle.wiring_places.specs.binding_stretches.Taken.{taken_in}
use Rattle.wiring_places.specs.place_rules.Counts.{served_at}
use Rattle.wiring_places.proofs.place_spans.served.served_table.Given as goal

abbrev pub invariant-loop-join : goal.invariant-loop-join
invariant-loop-join l = (key : ℕ) → taken_in l.table key ≡ served_at (take l.join-index l.joins) key
