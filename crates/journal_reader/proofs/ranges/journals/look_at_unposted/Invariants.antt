use Rattle.std.proofs.Common.{All, take}
use Rattle.journal_reader.specs.journal_texts.InRange.{Is32Bit}
use Rattle.journal_reader.proofs.ranges.journals.look_at_unposted.Given as goal

abbrev pub invariant-loop-number : goal.invariant-loop-number
invariant-loop-number l = All Is32Bit (take l.number-index l.numbers)
