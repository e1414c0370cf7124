use Rattle.law_runs.proofs.bounded_growth.Grown.{duty_grown}
use Rattle.law_runs.proofs.bounded_growth.places.duties_grow_by_one.Goals as goal

pub returns : goal.returns
returns c = λ t me b n table kind m small g. duty_grown t me b n table kind m small g
