use Rattle.std.proofs.Common.{ap, option_map}
use Rattle.chart_run.specs.chart_tables.Tables.{arrow_view, event_view}
use Rattle.chart_run.proofs.chart_tables.Trying.{enabled_hit}
use Rattle.chart_run.proofs.chart_tables.mind.Mind.enabled.Goals as goal

pub returns-in-Some-clause-found : goal.returns-in-Some-clause-found
returns-in-Some-clause-found c =
    rw (← c.up-state-items.ensures)
    (enabled_hit c.args.tables.now c.args.at.now (event_view c.args.event) c.up-state-items.result.now c.loop-i.i c.args.self.now c.loop-i.self c.loop-i.invariant c.tried.new.self
    (option_map (λ t. arrow_view t.now) c.in_ok-arrow.field-0) (arrow_view c.in-Some.arrow.now) c.loop-i-test.true c.in_ok-arrow.ensures (ap (option_map (λ t. arrow_view t.now)) c.in-Some.is))
