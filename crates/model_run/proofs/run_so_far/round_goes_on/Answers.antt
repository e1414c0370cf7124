use Rattle.model_run.proofs.run_so_far.GoesOn.{so_far}
use Rattle.model_run.proofs.run_so_far.round_goes_on.Goals as goal

pub returns : goal.returns
returns c = λ plant gone fuel ks news v after posts es logs logs' answer r ends env done.
    so_far plant gone fuel ks news v after posts es logs logs' answer r ends env done
