use Rattle.law_merges.proofs.Rise.{risen_merge}
use Rattle.law_merges.proofs.risen_journals_merge.Goals as goal

pub returns : goal.returns
returns c = λ count journals rise none. risen_merge count journals rise none
