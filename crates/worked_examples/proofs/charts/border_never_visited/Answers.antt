use Rattle.std.proofs.Common.{refl}
use Rattle.worked_examples.proofs.charts.Computing.{computing}
use Rattle.worked_examples.proofs.charts.border_never_visited.Goals as goal

pub returns : goal.returns
unfolding computing
returns c = record { at_first = refl; back = refl }
