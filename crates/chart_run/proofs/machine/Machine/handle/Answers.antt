use Rattle.std.proofs.Common.{subst}
use Rattle.chart_run.specs.Machines.{moment_of, event_of, standing_of}
use Rattle.chart_run.specs.ByName.{IsActed, state_count}
use Rattle.chart_run.proofs.Naming.{acts_as_chart}
use Rattle.chart_run.proofs.machine.Machine.handle.Goals as goal

pub returns-in_err-outcome-clause-fits : goal.returns-in_err-outcome-clause-fits
returns-in_err-outcome-clause-fits c = record {
  size = λ e. absurd cc;
  quiet_notes = λ e. absurd cc;
  quiet_commands = λ e. absurd cc;
}

pub returns-clause-as_chart : goal.returns-clause-as_chart
returns-clause-as_chart c = acts_as_chart c.args.tables.now c.args.self.now _ c.args.m.now c.in_ok-outcome.outcome c.in_ok-outcome.ensures.acts
