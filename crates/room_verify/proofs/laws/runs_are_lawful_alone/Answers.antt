use Rattle.room_verify.proofs.AloneLaw.{lawful_alone}
use Rattle.room_verify.proofs.laws.runs_are_lawful_alone.Goals as goal

pub returns : goal.returns
returns g c = λ model t items fuel j is v verdict. lawful_alone model t items fuel j is v verdict
