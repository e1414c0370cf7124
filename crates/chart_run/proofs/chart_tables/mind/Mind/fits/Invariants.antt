use Rattle.chart_model.specs.chart_plan.Handling.{trigger_fits}
use Rattle.chart_model.specs.Acting.{acting}
use Rattle.chart_model.specs.Named.{same_event}
use Rattle.chart_run.specs.chart_tables.Tables.{event_view, trigger_view}
use Rattle.chart_run.proofs.chart_tables.Trying.{Tried}
use Rattle.chart_run.proofs.chart_tables.mind.Mind.fits.Given as goal

abbrev pub invariant-loop-trigger : goal.invariant-loop-trigger
invariant-loop-trigger l = Tried trigger_view (trigger_fits (acting l.at) same_event (event_view l.event)) l.trigger-items l.trigger-index l.fn.self l.self
