use Rattle.tied_journals.specs.PostTables.{ArePostsOf}
use Rattle.tied_journals.proofs.UntiedSteps.{TiedBelow}
use Rattle.tied_journals.proofs.untied.first_untied_by.Given as goal

abbrev pub invariant-loop-c : goal.invariant-loop-c
invariant-loop-c l = ArePostsOf l.posts l.journals → TiedBelow l.journals l.c
