use Rattle.chart_run.specs.chart_tables.Tables.{event_view}
use Rattle.chart_run.proofs.chart_tables.Trying.{Searched}
use Rattle.chart_run.proofs.chart_tables.mind.Mind.enabled.Given as goal

abbrev pub invariant-loop-i : goal.invariant-loop-i
invariant-loop-i l = Searched l.tables l.at (event_view l.event) l.state-items l.i l.fn.self l.self
