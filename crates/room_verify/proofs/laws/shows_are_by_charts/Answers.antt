use Rattle.room_verify.proofs.SeenLaw.{shown_by_charts}
use Rattle.room_verify.proofs.laws.shows_are_by_charts.Goals as goal

pub returns : goal.returns
returns c = λ plant charts lines j at snapshot stand h. shown_by_charts plant charts lines j at snapshot stand h
