use Rattle.wiring_joins.specs.tellings.Marked.{IsRow}
use Rattle.wiring_joins.proofs.tellings.told.row_of.Given as goal

abbrev pub invariant-loop-d : goal.invariant-loop-d
invariant-loop-d l = IsRow l.marks l.slot l.owner l.d l.row
