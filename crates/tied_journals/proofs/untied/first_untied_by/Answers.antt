use Rattle.tied_journals.proofs.UntiedSteps.{none_below}
use Rattle.tied_journals.proofs.untied.first_untied_by.Goals as goal

pub loop-c-init : goal.loop-c-init
loop-c-init c = λ are. none_below c.args.journals.now
