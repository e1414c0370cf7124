use Rattle.std.proofs.Common.{◌≡◌, refl}
use Rattle.chart_model.specs.Acting.{Handled, starts_by}
use Rattle.chart_run.specs.chart_tables.Tables.{arrow_view, plan}
use Rattle.chart_run.specs.Machines.{acted_of, moment_at_start}
use Rattle.chart_run.proofs.Naming.{starts_as_chart}
use Rattle.chart_run.proofs.Taking.{started}
use Rattle.chart_run.proofs.machine.Machine.start.Goals as goal

pub returns-clause-starts : goal.returns-clause-starts
returns-clause-starts c = record {
  starts =
      rw c.take_effects-effects.ensures.out
      (started c.args.tables.now c.args.me (record { past = c.in_ok-past.past; vars = c.in_ok-vars.vars; effects = c.new-2.result }) c.chain.new.self c.in_ok-leaf.leaf c.take_effects-effects.new.self (rw (← c.deref.ensures.value) c.in_ok-past.ensures) (rw (← c.deref-2.ensures.value) c.in_ok-vars.ensures) c.new-2.ensures.notes c.new-2.ensures.commands
      (rw (← c.empty.ensures) c.in_ok-leaf.ensures) c.take_effects-effects.ensures.leaf c.take_effects-effects.ensures.past c.take_effects-effects.ensures.vars);
  own = c.take_effects-effects.ensures.me;
  works = c.take_effects-effects.ensures.failed;
}

pub returns-clause-as_chart : goal.returns-clause-as_chart
returns-clause-as_chart c = starts_as_chart c.args.tables.now c.args.me c.take_effects-effects.new.self c.take_effects-effects.result (returns-clause-starts c).starts
