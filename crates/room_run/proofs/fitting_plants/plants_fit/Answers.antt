use Rattle.room_run.proofs.fitting_plants.Plants.{plants_fit}
use Rattle.room_run.proofs.fitting_plants.plants_fit.Goals as goal

pub returns : goal.returns
returns c = plants_fit
