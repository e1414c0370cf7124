use Rattle.std.proofs.Common.{take}
use Rattle.tied_journals.specs.PostTables.{AreTablesOf}
use Rattle.tied_journals.proofs.tables.Posts.of.Given as goal

abbrev pub invariant-loop-journal : goal.invariant-loop-journal
invariant-loop-journal l = AreTablesOf l.parties.items (take l.journal-index l.journals.controllers)
