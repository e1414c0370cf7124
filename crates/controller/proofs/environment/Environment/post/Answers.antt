use Rattle.mail_core.proofs.Tied.{StaysTied-refl}
use Rattle.controller.proofs.environment.Environment.post.Goals as goal

pub returns-in_err-posted-clause-tied : goal.returns-in_err-posted-clause-tied
returns-in_err-posted-clause-tied g c = StaysTied-refl
