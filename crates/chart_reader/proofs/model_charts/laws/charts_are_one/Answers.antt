use Rattle.chart_reader.proofs.model_charts.One.{are_one}
use Rattle.chart_reader.proofs.model_charts.laws.charts_are_one.Goals as goal

pub returns : goal.returns
returns c = λ m. are_one m
