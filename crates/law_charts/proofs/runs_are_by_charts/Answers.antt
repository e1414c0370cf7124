use Rattle.law_charts.proofs.ByCharts.{by_charts}
use Rattle.law_charts.proofs.runs_are_by_charts.Goals as goal

pub returns : goal.returns
returns c = λ plant charts lines fuel j stand run. by_charts plant charts lines fuel j stand run
