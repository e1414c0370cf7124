use Rattle.chart_run.specs.chart_tables.Tables.{up_at}
use Rattle.chart_run.proofs.chart_tables.Walking.{Entered}
use Rattle.chart_run.proofs.chart_tables.mind.Mind.enter_below.Given as goal

abbrev pub invariant-loop-i : goal.invariant-loop-i
invariant-loop-i l = Entered l.tables l.at (up_at l.tables l.leaf) l.i l.count l.fn.self l.self
