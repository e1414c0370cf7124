use Rattle.room_verify.proofs.ShownLaw.{run_shown}
use Rattle.room_verify.proofs.laws.runs_lead_to_shown.Goals as goal

pub returns : goal.returns
returns c = λ plant lines fuel j at snapshot h none run. run_shown plant lines fuel j at snapshot h none run
