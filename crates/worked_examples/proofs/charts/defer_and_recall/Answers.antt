use Rattle.std.proofs.Common.{refl}
use Rattle.worked_examples.proofs.charts.Computing.{computing}
use Rattle.worked_examples.proofs.charts.defer_and_recall.Goals as goal

pub returns : goal.returns
unfolding computing
returns c = record { deferred = refl; recalled = refl; asked = refl; handled = refl }
