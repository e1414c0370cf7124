use Rattle.std.proofs.Common.{length}
use Rattle.room_outside.proofs.line_text.Going.{Going}
use Rattle.room_outside.proofs.line_text.buffer.LineBuffer.put_pieces.Given as goal

abbrev pub invariant-loop-rest : goal.invariant-loop-rest
invariant-loop-rest g l =
    Going (record { written = g.K.Sink.written l.initial.sink; held = l.initial.self })
    (record { written = g.K.Sink.written l.sink; held = l.self })
    l.bytes l.rest

abbrev pub decreases-loop-rest : goal.decreases-loop-rest
decreases-loop-rest g l = length l.rest
