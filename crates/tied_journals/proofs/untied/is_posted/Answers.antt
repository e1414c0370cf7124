use Rattle.tied_journals.proofs.TableSteps.{kept_alone}
use Rattle.tied_journals.proofs.untied.is_posted.Goals as goal

pub returns-in-Some : goal.returns-in-Some
returns-in-Some c = λ j are. kept_alone _ _ _ _ (c.in-Some.ensures j are) c.is_same.ensures
