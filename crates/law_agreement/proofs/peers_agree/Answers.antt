use Rattle.law_agreement.proofs.Mutual.{peers_mutual}
use Rattle.law_agreement.proofs.peers_agree.Goals as goal

pub returns : goal.returns
returns g c = λ t w wired owners near orderly directories imports links. peers_mutual t w wired owners near orderly directories imports links
