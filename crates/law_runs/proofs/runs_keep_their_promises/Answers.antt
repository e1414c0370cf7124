use Rattle.law_runs.proofs.PromisesLaw.{promises}
use Rattle.law_runs.proofs.runs_keep_their_promises.Goals as goal

pub returns : goal.returns
returns c = λ plant lines fuel j run. promises plant lines fuel j run
