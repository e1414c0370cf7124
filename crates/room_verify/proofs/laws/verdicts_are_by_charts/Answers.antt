use Rattle.room_verify.proofs.RunsLaw.{verdict_by_charts}
use Rattle.room_verify.proofs.laws.verdicts_are_by_charts.Goals as goal

pub returns : goal.returns
returns c = λ plant charts lines fuel j v stand verdict. verdict_by_charts plant charts lines fuel j v stand verdict
