use Rattle.law_models.proofs.settled_models.Models.{models_worded}
use Rattle.law_models.proofs.settled_models.charts_send_worded.Goals as goal

pub returns : goal.returns
returns c = models_worded
