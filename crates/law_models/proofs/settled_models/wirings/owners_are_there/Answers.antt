use Rattle.law_models.proofs.settled_models.Owners.{owners_there}
use Rattle.law_models.proofs.settled_models.wirings.owners_are_there.Goals as goal

pub returns : goal.returns
returns c = owners_there
