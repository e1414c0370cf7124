use Rattle.std.proofs.Common.{drop}
use Rattle.std.specs.List.{flat_map}
use Rattle.room_outside.specs.line_text.Output.{at_rest}
use Rattle.journal.specs.Lines.{unposted_line}
use Rattle.room_outside.proofs.line_text.Going.{Going}
use Rattle.journal.proofs.entries.write_unposted.Given as goal

abbrev pub invariant-loop-number : goal.invariant-loop-number
invariant-loop-number g l =
    Going (at_rest (g.K.Sink.written l.initial.sink) l.initial.out) (at_rest (g.K.Sink.written l.sink) l.out)
    (flat_map unposted_line l.numbers) (flat_map unposted_line (drop l.number-index l.numbers))
