use Rattle.room_verify.proofs.OneVerdict.{one_verdict}
use Rattle.room_verify.proofs.laws.verdicts_are_one.Goals as goal

pub returns : goal.returns
returns g c = λ model t items fuel j v u a b. one_verdict model t items fuel j v u a b
