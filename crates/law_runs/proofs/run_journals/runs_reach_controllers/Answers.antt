use Rattle.law_runs.proofs.run_journals.ReachingLaw.{reach}
use Rattle.law_runs.proofs.run_journals.runs_reach_controllers.Goals as goal

pub returns : goal.returns
returns c = reach
