use Rattle.wiring_joins.proofs.tellings.Telling.{AreAnswered}
use Rattle.wiring_joins.proofs.tellings.told.told_controllers.Given as goal

abbrev pub invariant-loop-s : goal.invariant-loop-s
invariant-loop-s l = AreAnswered l.slots l.places l.partners l.controllers l.s l.told
