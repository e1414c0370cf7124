use Rattle.std.proofs.Common.{drop}
use Rattle.std.specs.List.{flat_map}
use Rattle.room_outside.specs.line_text.Parts.{part_text}
use Rattle.room_outside.proofs.line_text.Going.{Going}
use Rattle.room_outside.proofs.line_text.buffer.LineBuffer.put_all.Given as goal

abbrev pub invariant-loop-part : goal.invariant-loop-part
invariant-loop-part g l =
    Going (record { written = g.K.Sink.written l.initial.sink; held = l.initial.self })
    (record { written = g.K.Sink.written l.sink; held = l.self })
    (flat_map part_text l.parts) (flat_map part_text (drop l.part-index l.parts))
