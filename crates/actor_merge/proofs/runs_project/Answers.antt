use Rattle.actor_merge.proofs.Back.{run_projects}
use Rattle.actor_merge.proofs.runs_project.Goals as goal

pub returns : goal.returns
returns g c = λ plant w xs end h. run_projects plant w xs end h
