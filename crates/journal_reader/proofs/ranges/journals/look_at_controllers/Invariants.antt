use Rattle.std.proofs.Common.{All, take}
use Rattle.std.specs.Prelude.{List}
use Rattle.journal.specs.declared.entry.Entry.{Entry}
use Rattle.journal_reader.specs.journal_texts.InRange.{InRangeEntry}
use Rattle.journal_reader.proofs.ranges.journals.look_at_controllers.Given as goal

abbrev pub invariant-loop-journal : goal.invariant-loop-journal
invariant-loop-journal l = All (λ (es : List Entry). All InRangeEntry es) (take l.journal-index l.journals)
