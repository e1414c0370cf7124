use Rattle.std.proofs.Common.{refl}
use Rattle.worked_examples.proofs.worlds.Computing.{computing}
use Rattle.worked_examples.proofs.worlds.import_then_deport.Goals as goal

pub returns : goal.returns
unfolding computing
returns c = record { begins = refl; run = refl }
