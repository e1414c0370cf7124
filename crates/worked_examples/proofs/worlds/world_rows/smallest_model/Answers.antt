use Rattle.std.proofs.Common.{refl}
use Rattle.worked_examples.proofs.worlds.Computing.{computing}
use Rattle.worked_examples.proofs.worlds.world_rows.smallest_model.Goals as goal

pub returns : goal.returns
unfolding computing
returns c = record { begins = refl; run = refl }
