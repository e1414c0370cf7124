use Rattle.law_runs.proofs.run_texts.OneRun.{one_run}
use Rattle.law_runs.proofs.run_texts.events_tell_runs.Goals as goal

pub returns : goal.returns
returns g c = λ plant w xs ys end other a b r s same. one_run plant xs ys w end other a b r s same
