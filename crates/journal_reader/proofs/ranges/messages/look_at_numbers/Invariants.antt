use Rattle.std.proofs.Common.{All, take}
use Rattle.journal_reader.specs.journal_texts.InRange.{IsSigned64}
use Rattle.journal_reader.proofs.ranges.messages.look_at_numbers.Given as goal

abbrev pub invariant-loop-number : goal.invariant-loop-number
invariant-loop-number l = All IsSigned64 (take l.number-index l.numbers)
