use Rattle.wiring_joins.proofs.tellings.Telling.{AreMarked}
use Rattle.wiring_joins.proofs.tellings.told.marks_of.Given as goal

abbrev pub invariant-loop-i : goal.invariant-loop-i
invariant-loop-i l = AreMarked l.slots l.places l.partners l.controllers l.i l.marks
