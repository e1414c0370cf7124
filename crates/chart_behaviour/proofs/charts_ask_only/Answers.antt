use Rattle.chart_behaviour.proofs.Charts.{asks_only, are_open, are_static}
use Rattle.chart_behaviour.proofs.charts_ask_only.Goals as goal

pub returns-clause-only : goal.returns-clause-only
returns-clause-only c = asks_only

pub returns-clause-openly : goal.returns-clause-openly
returns-clause-openly c = are_open

pub returns-clause-statically : goal.returns-clause-statically
returns-clause-statically c = are_static
