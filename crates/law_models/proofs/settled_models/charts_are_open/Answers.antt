use Rattle.law_models.proofs.settled_models.Models.{models_open}
use Rattle.law_models.proofs.settled_models.charts_are_open.Goals as goal

pub returns : goal.returns
returns c = models_open
