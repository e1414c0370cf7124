use Rattle.std.proofs.Common.{◌≡◌, take, None}
use Rattle.journal.specs.declared.entry.Journals.{Journals}
use Rattle.tied_journals.specs.Tied.{AreTied}
use Rattle.tied_journals.specs.PostTables.{ArePostsOf}
use Rattle.tied_journals.specs.Untied.{last_fetched}
use Rattle.tied_journals.proofs.untied.first_untied_in.Given as goal

abbrev pub invariant-loop-entry : goal.invariant-loop-entry
invariant-loop-entry l =
    (l.before ≡ last_fetched None (take l.entry-index l.entries))
    × ((j : Journals) → ArePostsOf l.posts j → AreTied j None (take l.entry-index l.entries))
