use Rattle.law_runs.proofs.run_journals.InPlaceLaw.{in_place}
use Rattle.law_runs.proofs.run_journals.runs_are_in_place.Goals as goal

pub returns : goal.returns
returns c = in_place
