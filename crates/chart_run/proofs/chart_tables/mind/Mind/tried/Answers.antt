use Rattle.std.proofs.Common.{ap, option_map}
use Rattle.chart_run.specs.chart_tables.Tables.{arrow_view, event_view}
use Rattle.chart_run.proofs.chart_tables.Trying.{tried_own, tried_shared}
use Rattle.chart_run.proofs.chart_tables.mind.Mind.tried.Goals as goal

pub returns-in-Some : goal.returns-in-Some
returns-in-Some c =
    tried_own c.args.tables.now c.args.state c.args.at.now (event_view c.args.event) c.args.self.now c.own.result.now (option_map (λ t. arrow_view t.now) c.in_ok-arrow.field-0) (arrow_view c.in-Some.arrow.now) c.first_fit.new.self c.own.ensures c.in_ok-arrow.ensures
    (ap (option_map (λ t. arrow_view t.now)) c.in-Some.is)

pub returns-in_ok-shared-in-None : goal.returns-in_ok-shared-in-None
returns-in_ok-shared-in-None c =
    tried_shared c.args.tables.now c.args.state c.args.at.now (event_view c.args.event) c.args.self.now c.own.result.now c.shared.result.now (option_map (λ t. arrow_view t.now) c.in_ok-arrow.field-0) (option_map (λ t. arrow_view t.now) c.in_ok-shared-in-None.shared) c.first_fit.new.self c.first_fit-in-None.new.self c.own.ensures c.shared.ensures c.in_ok-arrow.ensures
    (ap (option_map (λ t. arrow_view t.now)) c.in-None.is) c.in_ok-shared-in-None.ensures
