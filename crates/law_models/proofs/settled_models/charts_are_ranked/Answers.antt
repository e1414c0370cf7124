use Rattle.law_models.proofs.settled_models.Models.{models_ranked}
use Rattle.law_models.proofs.settled_models.charts_are_ranked.Goals as goal

pub returns : goal.returns
returns c = models_ranked
