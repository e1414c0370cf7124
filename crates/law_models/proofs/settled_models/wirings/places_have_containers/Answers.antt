use Rattle.law_models.proofs.settled_models.Owners.{places_contained}
use Rattle.law_models.proofs.settled_models.wirings.places_have_containers.Goals as goal

pub returns : goal.returns
returns c = λ m t keeps slots. places_contained m keeps t slots
