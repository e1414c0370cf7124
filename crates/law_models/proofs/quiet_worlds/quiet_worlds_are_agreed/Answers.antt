use Rattle.law_models.proofs.quiet_worlds.Worlds.{quiet_lives, quiet_all}
use Rattle.law_models.proofs.quiet_worlds.quiet_worlds_are_agreed.Goals as goal

pub returns : goal.returns
returns c = record { lives = quiet_lives; agreed = quiet_all }
