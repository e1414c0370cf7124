use Rattle.chart_run.specs.chart_tables.Tables.{event_view, arrow_view}
use Rattle.chart_run.specs.chart_tables.Minds.{arrow_fits}
use Rattle.chart_run.proofs.chart_tables.Trying.{Tried}
use Rattle.chart_run.proofs.chart_tables.mind.Mind.first_fit.Given as goal

abbrev pub invariant-loop-arrow : goal.invariant-loop-arrow
invariant-loop-arrow l = Tried arrow_view (arrow_fits l.at (event_view l.event)) l.arrows l.arrow-index l.fn.self l.self
