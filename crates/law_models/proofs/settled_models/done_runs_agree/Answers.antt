use Rattle.law_models.proofs.settled_models.Runs.{model_agrees}
use Rattle.law_models.proofs.settled_models.done_runs_agree.Goals as goal

pub returns : goal.returns
returns c = model_agrees
