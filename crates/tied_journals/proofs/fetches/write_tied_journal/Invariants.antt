use Rattle.std.proofs.Common.{drop}
use Rattle.room_outside.specs.line_text.Output.{at_rest}
use Rattle.room_outside.proofs.line_text.Going.{Going}
use Rattle.tied_journals.specs.Text.{tied_journal_text, tied_entries_text}
use Rattle.tied_journals.specs.Writing.{standing}
use Rattle.tied_journals.proofs.fetches.write_tied_journal.Given as goal

abbrev pub invariant-loop-entry : goal.invariant-loop-entry
invariant-loop-entry g l =
    Going (at_rest (g.K.Sink.written l.initial.sink) l.initial.out) (standing l.begun (g.K.Sink.written l.sink) l.out)
    (tied_journal_text l.wiring l.entries) (tied_entries_text l.wiring l.begun (drop l.entry-index l.entries))
