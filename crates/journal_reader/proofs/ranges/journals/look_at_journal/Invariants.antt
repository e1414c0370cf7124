use Rattle.std.proofs.Common.{All, take}
use Rattle.journal_reader.specs.journal_texts.InRange.{InRangeEntry}
use Rattle.journal_reader.proofs.ranges.journals.look_at_journal.Given as goal

abbrev pub invariant-loop-entry : goal.invariant-loop-entry
invariant-loop-entry l = All InRangeEntry (take l.entry-index l.entries)
