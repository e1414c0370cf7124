use Rattle.room_verify.specs.Merging.{HasPassedUpTo}
use Rattle.room_verify.proofs.merging.replay_merge.Given as goal

abbrev pub invariant-loop-entry : goal.invariant-loop-entry
invariant-loop-entry l = HasPassedUpTo l.plant l.lines l.j l.until l.passed.items l.replay
