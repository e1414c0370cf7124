use Rattle.law_names.proofs.LinkLaws.{quiet_agree}
use Rattle.law_names.proofs.links.links_agree.Goals as goal

pub returns : goal.returns
returns g c = quiet_agree
