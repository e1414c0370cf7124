use Rattle.std.proofs.Common.{refl}
use Rattle.worked_examples.proofs.worlds.Computing.{computing}
use Rattle.worked_examples.proofs.worlds.stale_message.Goals as goal

pub returns : goal.returns
unfolding computing
returns c = record { begins = refl; run = refl }
