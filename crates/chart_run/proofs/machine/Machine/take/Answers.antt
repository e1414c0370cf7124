use Rattle.std.proofs.Common.{ap}
use Rattle.chart_run.specs.chart_tables.Minds.{taken_view}
use Rattle.chart_run.specs.chart_tables.Tables.{arrow_view, event_view}
use Rattle.chart_run.proofs.Taking.{taken_up}
use Rattle.chart_run.proofs.machine.Machine.take.Goals as goal

pub returns-clause-handling : goal.returns-clause-handling
returns-clause-handling c =
    taken_up c.args.tables.now c.args.at.now (event_view c.args.event) c.args.self.now.leaf c.args.self.now.mind c.enabled.new.self (taken_view c.in_ok-taken.field-0) c.in_ok-taken.ensures.found
    c.in-Some.taken.leaves (arrow_view c.in-Some.taken.arrow.now) c.leave_all.new.self c.chain.new.self c.in_ok-end.end (ap taken_view c.in-Some.is) c.in_ok-leave_all.ensures c.in_ok-end.ensures
