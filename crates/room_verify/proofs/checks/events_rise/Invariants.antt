use Rattle.room_verify.proofs.CheckLaw.{EventsRiseFrom}
use Rattle.room_verify.proofs.checks.events_rise.Given as goal

abbrev pub invariant-loop-entry : goal.invariant-loop-entry
invariant-loop-entry l = EventsRiseFrom l.journal l.last l.entry-index
