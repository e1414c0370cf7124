use Rattle.std.proofs.Common.{refl}
use Rattle.worked_examples.proofs.charts.Computing.{computing}
use Rattle.worked_examples.proofs.charts.group_transition_and_history.Goals as goal

pub returns : goal.returns
unfolding computing
returns c = record { at_first = refl; back = refl; kick = refl; again = refl }
