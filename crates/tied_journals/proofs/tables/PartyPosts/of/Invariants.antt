use Rattle.std.proofs.Common.{take}
use Rattle.tied_journals.specs.PostTables.{IsTableOf}
use Rattle.tied_journals.proofs.tables.PartyPosts.of.Given as goal

abbrev pub invariant-loop-entry : goal.invariant-loop-entry
invariant-loop-entry l = IsTableOf l.table (take l.entry-index l.entries)
