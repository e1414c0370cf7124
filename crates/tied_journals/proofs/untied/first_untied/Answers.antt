use Rattle.tied_journals.proofs.UntiedSteps.{judged}
use Rattle.tied_journals.proofs.untied.first_untied.Goals as goal

pub returns-clause-tied : goal.returns-clause-tied
returns-clause-tied c = judged c.args.journals.now _ (c.first_untied_by.ensures c.in_ok-posts.ensures)
