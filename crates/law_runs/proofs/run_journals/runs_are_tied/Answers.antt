use Rattle.law_runs.proofs.run_journals.TiedLaw.{tied}
use Rattle.law_runs.proofs.run_journals.runs_are_tied.Goals as goal

pub returns : goal.returns
returns c = tied
