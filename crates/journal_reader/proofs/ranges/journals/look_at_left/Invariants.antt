use Rattle.std.proofs.Common.{All, take}
use Rattle.journal_reader.specs.journal_texts.InRange.{InRangeLeft}
use Rattle.journal_reader.proofs.ranges.journals.look_at_left.Given as goal

abbrev pub invariant-loop-one : goal.invariant-loop-one
invariant-loop-one l = All InRangeLeft (take l.one-index l.left)
