use Rattle.std.proofs.Common.{arith}
use Rattle.room_run.specs.Causes.{long_model, unfit_model}
use Rattle.room_run.proofs.made.made_plant.Goals as goal

pub returns-then-text-gt-MOST_BYTES-clause-err : goal.returns-then-text-gt-MOST_BYTES-clause-err
returns-then-text-gt-MOST_BYTES-clause-err c = long_model (omega (arith, c.if-text-gt-MOST_BYTES.true))

pub returns-in-Err-clause-err : goal.returns-in-Err-clause-err
returns-in-Err-clause-err c = unfit_model c.in-Err.fault c.in-Err.ensures.err
