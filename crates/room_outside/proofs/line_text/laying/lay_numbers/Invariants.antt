use Rattle.std.proofs.Common.{◌≡◌, ◌+◌, ◌++◌, length, take, drop}
use Rattle.room_outside.specs.line_text.Lines.{numbers_text}
use Rattle.room_outside.proofs.line_text.laying.lay_numbers.Given as goal

abbrev pub invariant-loop-number : goal.invariant-loop-number
invariant-loop-number l =
    record {
      laid : take l.end l.piece ++ numbers_text (drop l.number-index l.numbers) ≡ take l.at l.fn.piece ++ numbers_text l.numbers;
      length : l.end + length (numbers_text (drop l.number-index l.numbers)) ≡ l.at + length (numbers_text l.numbers);
    }
