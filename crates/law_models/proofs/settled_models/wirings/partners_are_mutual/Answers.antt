use Rattle.law_models.proofs.settled_models.Mutual.{model_mutual}
use Rattle.law_models.proofs.settled_models.wirings.partners_are_mutual.Goals as goal

pub returns : goal.returns
returns c = model_mutual
