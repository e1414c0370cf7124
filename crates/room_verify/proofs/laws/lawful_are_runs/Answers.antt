use Rattle.room_verify.proofs.RunsLaw.{lawful_run}
use Rattle.room_verify.proofs.laws.lawful_are_runs.Goals as goal

pub returns : goal.returns
returns c = λ plant lines fuel j. lawful_run plant lines fuel j
