use Rattle.std.proofs.Common.{◌≡◌, take}
use Rattle.journal.specs.declared.entry.Journals.{Journals}
use Rattle.tied_journals.specs.PostTables.{ArePostsOf}
use Rattle.journal_reader.specs.journal_texts.Filled.{filled_entries}
use Rattle.journal_reader.proofs.fill.filled_entries.Given as goal

abbrev pub invariant-loop-entry : goal.invariant-loop-entry
invariant-loop-entry l = (j : Journals) → ArePostsOf l.posts j → l.filled ≡ filled_entries j (take l.entry-index l.entries)
