use Rattle.std.proofs.Common.{drop}
use Rattle.std.specs.List.{flat_map}
use Rattle.room_outside.specs.line_text.Output.{at_rest}
use Rattle.journal.specs.Lines.{left_line}
use Rattle.room_outside.proofs.line_text.Going.{Going}
use Rattle.journal.proofs.entries.write_left.Given as goal

abbrev pub invariant-loop-one : goal.invariant-loop-one
invariant-loop-one g l =
    Going (at_rest (g.K.Sink.written l.initial.sink) l.initial.out) (at_rest (g.K.Sink.written l.sink) l.out)
    (flat_map (left_line l.wiring) l.left) (flat_map (left_line l.wiring) (drop l.one-index l.left))
