use Rattle.room_run.proofs.fitting_plants.Runs.{runs_settle}
use Rattle.room_run.proofs.fitting_plants.fitting_runs_settle.Goals as goal

pub returns : goal.returns
returns c = runs_settle
