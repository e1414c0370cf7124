use Rattle.law_runs.proofs.bounded_growth.First.{starts_low}
use Rattle.law_runs.proofs.bounded_growth.generations.starts_are_low.Goals as goal

pub returns : goal.returns
returns c = λ t me s. starts_low t me s
