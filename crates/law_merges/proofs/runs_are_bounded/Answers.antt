use Rattle.law_merges.proofs.Bounds.{run_bounded}
use Rattle.law_merges.proofs.runs_are_bounded.Goals as goal

pub returns : goal.returns
returns g c = λ plant w xs end run. run_bounded plant w xs end run
