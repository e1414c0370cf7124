use Rattle.std.proofs.Common.{refl}
use Rattle.worked_examples.proofs.charts.Computing.{computing}
use Rattle.worked_examples.proofs.charts.choice_with_zero_divisor.Goals as goal

pub returns : goal.returns
unfolding computing
returns c = record { zero = refl; one = refl; stop = refl }
