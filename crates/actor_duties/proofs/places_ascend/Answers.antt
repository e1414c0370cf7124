use Rattle.actor_duties.proofs.Orderly.{stays_orderly}
use Rattle.actor_duties.proofs.places_ascend.Goals as goal

pub returns : goal.returns
returns c = stays_orderly
