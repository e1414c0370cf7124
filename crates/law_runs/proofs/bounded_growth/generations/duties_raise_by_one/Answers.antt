use Rattle.law_runs.proofs.bounded_growth.Raised.{raised_by_one}
use Rattle.law_runs.proofs.bounded_growth.generations.duties_raise_by_one.Goals as goal

pub returns : goal.returns
returns c = λ t me f kind m s. raised_by_one t me f kind m s
