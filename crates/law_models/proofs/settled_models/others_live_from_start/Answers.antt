use Rattle.law_models.proofs.settled_models.Kept.{model_others_live}
use Rattle.law_models.proofs.settled_models.others_live_from_start.Goals as goal

pub returns : goal.returns
returns c = model_others_live
