use Rattle.std.proofs.Common.{refl}
use Rattle.worked_examples.proofs.charts.Computing.{computing}
use Rattle.worked_examples.proofs.charts.points.Goals as goal

pub returns : goal.returns
unfolding computing
returns c = record { entered = refl; itself = refl; any = refl; left = refl; back = refl; first = refl }
