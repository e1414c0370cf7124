use Rattle.room_run.proofs.fitting_plants.Worlds.{worlds_stand_so, quiet_worlds_agree}
use Rattle.room_run.proofs.fitting_plants.fitting_worlds_agree.Goals as goal

pub returns : goal.returns
returns c = record { stand = worlds_stand_so; quiet = quiet_worlds_agree }
