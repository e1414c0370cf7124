use Rattle.law_names.proofs.LinkLaws.{names_agree}
use Rattle.law_names.proofs.links.names_agree.Goals as goal

pub returns : goal.returns
returns g c = names_agree
