use Rattle.std.proofs.Common.{refl}
use Rattle.worked_examples.proofs.charts.Computing.{computing}
use Rattle.worked_examples.proofs.charts.guards.Goals as goal

pub returns : goal.returns
unfolding computing
returns c = record { refused = refl; outer = refl; other = refl }
