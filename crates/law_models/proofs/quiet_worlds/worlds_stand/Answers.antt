use Rattle.law_models.proofs.quiet_worlds.Worlds.{worlds_stand}
use Rattle.law_models.proofs.quiet_worlds.worlds_stand.Goals as goal

pub returns : goal.returns
returns c = worlds_stand
