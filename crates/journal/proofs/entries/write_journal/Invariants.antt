use Rattle.std.proofs.Common.{drop}
use Rattle.std.specs.List.{flat_map}
use Rattle.room_outside.specs.line_text.Output.{at_rest}
use Rattle.journal.specs.Lines.{entry_text}
use Rattle.room_outside.proofs.line_text.Going.{Going}
use Rattle.journal.proofs.entries.write_journal.Given as goal

abbrev pub invariant-loop-entry : goal.invariant-loop-entry
invariant-loop-entry g l =
    Going (at_rest (g.K.Sink.written l.initial.sink) l.initial.out) (at_rest (g.K.Sink.written l.sink) l.out)
    (flat_map (entry_text l.wiring) l.entries) (flat_map (entry_text l.wiring) (drop l.entry-index l.entries))
