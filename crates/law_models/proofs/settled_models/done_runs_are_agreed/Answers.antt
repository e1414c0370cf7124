use Rattle.law_models.proofs.settled_models.Settled.{model_agreed}
use Rattle.law_models.proofs.settled_models.done_runs_are_agreed.Goals as goal

pub returns : goal.returns
returns c = model_agreed
