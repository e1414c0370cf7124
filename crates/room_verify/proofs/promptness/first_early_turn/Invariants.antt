use Rattle.room_verify.specs.Promptness.{FirstAgainst, MayByAllCounts}
use Rattle.room_verify.proofs.promptness.first_early_turn.Given as goal

abbrev pub invariant-loop-prio : goal.invariant-loop-prio
invariant-loop-prio l = FirstAgainst (MayByAllCounts l.c.0 l.prio) l.journal l.first
