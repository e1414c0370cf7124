use Rattle.std.proofs.Common.{◌≡◌, drop, map}
use Rattle.journal.specs.Fits.{left_rank}
use Rattle.journal_reader.specs.journal_fits.Judge.{rises_from}
use Rattle.journal_reader.proofs.journal_fits.journals.in_order.Given as goal

abbrev pub invariant-loop-one : goal.invariant-loop-one
invariant-loop-one l = rises_from l.last (map (left_rank l.wiring) (drop l.one-index l.left)) ≡ rises_from 0 (map (left_rank l.wiring) l.left)
