use Rattle.law_names.proofs.LinkLaws.{runs_foretell}
use Rattle.law_names.proofs.links.links_foretell.Goals as goal

pub returns : goal.returns
returns g c = runs_foretell
