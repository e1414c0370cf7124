use Rattle.room_verify.proofs.CheckLaw.{RiseFrom}
use Rattle.room_verify.proofs.checks.rises.Given as goal

abbrev pub invariant-loop-entry : goal.invariant-loop-entry
invariant-loop-entry l = RiseFrom l.journal l.last l.entry-index
