use Rattle.std.proofs.Common.{refl}
use Rattle.worked_examples.proofs.worlds.Computing.{computing}
use Rattle.worked_examples.proofs.worlds.world_rows.spent_run_leaves_one.Goals as goal

pub returns : goal.returns
unfolding computing
returns c = record { over = refl; posted = refl; silent = refl }
