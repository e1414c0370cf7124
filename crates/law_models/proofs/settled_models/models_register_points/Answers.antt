use Rattle.law_models.proofs.settled_models.Settled.{models_register}
use Rattle.law_models.proofs.settled_models.models_register_points.Goals as goal

pub returns : goal.returns
returns c = models_register
