use Rattle.chart_behaviour.proofs.Charts.{are_modest}
use Rattle.chart_behaviour.proofs.charts_are_modest.Goals as goal

pub returns : goal.returns
returns c = are_modest
