use Rattle.law_names.proofs.Soundness.{stays_sound}
use Rattle.law_names.proofs.Single.{joins_single}
use Rattle.law_names.proofs.LinkLaws.{runs_sound}
use Rattle.law_names.proofs.links.tables_are_sound.Goals as goal

pub returns : goal.returns
returns g c = record { stays = stays_sound; single = joins_single; runs = runs_sound }
