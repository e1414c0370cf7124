use Rattle.std.proofs.Common.{refl}
use Rattle.worked_examples.proofs.worlds.Computing.{computing}
use Rattle.worked_examples.proofs.worlds.world_rows.group_transition_and_history.Goals as goal

pub returns : goal.returns
unfolding computing
returns c = record { begins = refl; run = refl }
