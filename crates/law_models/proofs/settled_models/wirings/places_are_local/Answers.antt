use Rattle.law_models.proofs.settled_models.Owners.{places_local}
use Rattle.law_models.proofs.settled_models.wirings.places_are_local.Goals as goal

pub returns : goal.returns
returns c = places_local
