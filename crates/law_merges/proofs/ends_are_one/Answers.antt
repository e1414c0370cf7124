use Rattle.law_merges.proofs.Bounds.{one_end}
use Rattle.law_merges.proofs.ends_are_one.Goals as goal

pub returns : goal.returns
returns g c = λ plant w xs end other run again. one_end plant w xs end other run again
