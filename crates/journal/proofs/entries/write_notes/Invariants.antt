use Rattle.std.proofs.Common.{drop}
use Rattle.room_outside.specs.line_text.Output.{at_rest}
use Rattle.journal.specs.Lines.{note_lines}
use Rattle.room_outside.proofs.line_text.Going.{Going}
use Rattle.journal.proofs.entries.write_notes.Given as goal

abbrev pub invariant-loop-note : goal.invariant-loop-note
invariant-loop-note g l =
    Going (at_rest (g.K.Sink.written l.initial.sink) l.initial.out) (at_rest (g.K.Sink.written l.sink) l.out)
    (note_lines l.wiring l.duty l.fn.speaker l.notes) (note_lines l.wiring l.duty l.speaking (drop l.note-index l.notes))
