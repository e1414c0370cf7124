use Rattle.structure_check.proofs.Laws.{lowest}
use Rattle.structure_check.proofs.checking.lowest_is_found.Goals as goal

pub returns : goal.returns
returns c = λ rules m rise. lowest rules m rise
