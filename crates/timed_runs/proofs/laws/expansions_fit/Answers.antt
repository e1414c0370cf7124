use Rattle.timed_runs.proofs.Fitting.{expands_fit}
use Rattle.timed_runs.proofs.laws.expansions_fit.Goals as goal

pub returns : goal.returns
returns c = λ t done p lines xs left f h e. expands_fit t done p lines xs left f h e
