use Rattle.room_run.proofs.fitting_journals.FitsLaw.{journals_fit}
use Rattle.room_run.proofs.fitting_journals.fitting_journals_fit.Goals as goal

pub returns : goal.returns
returns c = journals_fit c.fitting_runs_journals.ensures
