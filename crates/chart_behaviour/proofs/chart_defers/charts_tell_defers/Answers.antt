use Rattle.chart_behaviour.proofs.chart_defers.Defers.{tell_defers}
use Rattle.chart_behaviour.proofs.chart_defers.charts_tell_defers.Goals as goal

pub returns : goal.returns
returns c = tell_defers
