use Rattle.std.proofs.Common.{◌≡◌, take, map}
use Rattle.journal.specs.declared.entry.Journals.{Journals}
use Rattle.tied_journals.specs.PostTables.{ArePostsOf}
use Rattle.journal_reader.specs.journal_texts.Filled.{filled_entries}
use Rattle.journal_reader.proofs.fill.filled_controllers.Given as goal

abbrev pub invariant-loop-journal : goal.invariant-loop-journal
invariant-loop-journal l = (j : Journals) → ArePostsOf l.posts j → l.filled ≡ map (filled_entries j) (take l.journal-index l.journals)
