use Rattle.room_verify.specs.Worlds.{Replays}
use Rattle.view_verdicts.proofs.reached.lead_on.Given as goal

abbrev pub invariant-loop-entry : goal.invariant-loop-entry
invariant-loop-entry l = Replays l.plant l.lines l.reached.replay
