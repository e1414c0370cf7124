use Rattle.std.proofs.Common.{drop}
use Rattle.room_outside.specs.line_text.Lines.{numbers_text}
use Rattle.room_outside.proofs.line_text.Going.{Going}
use Rattle.room_outside.proofs.line_text.buffer.LineBuffer.put_numbers.Given as goal

abbrev pub invariant-loop-number : goal.invariant-loop-number
invariant-loop-number g l =
    Going (record { written = g.K.Sink.written l.initial.sink; held = l.initial.self })
    (record { written = g.K.Sink.written l.sink; held = l.self })
    (numbers_text l.numbers) (numbers_text (drop l.number-index l.numbers))
