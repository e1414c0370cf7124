use Rattle.std.proofs.Common.{◌≡◌}
use Rattle.std.specs.List.{list_any}
use Rattle.chart_model.specs.Named.{same_event}
use Rattle.chart_run.specs.chart_tables.Tables.{event_view}
use Rattle.chart_run.proofs.chart_tables.Trying.{trigger_tested}
use Rattle.chart_run.proofs.chart_tables.mind.Mind.trigger_fits.Goals as goal

pub returns-in_ok-fits : goal.returns-in_ok-fits
returns-in_ok-fits c =
    let is : c.has_event-has.result ≡ list_any (λ e. same_event (event_view c.args.event) (event_view e)) c.args.trigger.now.events.items = cc in
    trigger_tested c.args.at.now (event_view c.args.event) c.args.trigger.now c.has_event-has.result is c.args.self.now c.holds.new.self c.in_ok-fits.fits c.if-has.true c.in_ok-fits.ensures
