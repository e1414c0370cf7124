use Rattle.std.proofs.Common.{◌≡◌, length}
use Rattle.room_wiring.specs.wiring_names.Index.{AreNumbersOf}
use Rattle.room_wiring.proofs.wiring_names.SlotClasses.{FindsBelow}
use Rattle.room_wiring.proofs.wiring_names.slot_classes.SlotClasses.of.Given as goal

abbrev pub invariant-loop-s : goal.invariant-loop-s
invariant-loop-s l = AreNumbersOf l.wiring l.seen.keys l.classes × (length l.places ≡ l.s) × FindsBelow l.wiring l.places l.classes l.s
