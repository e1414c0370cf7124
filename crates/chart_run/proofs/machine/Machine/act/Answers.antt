use Rattle.std.proofs.Common.{ap, sym, ◌∙◌}
use Rattle.chart_run.specs.Machines.{result_view, moment_of, event_of}
use Rattle.chart_run.proofs.Taking.{acted_up}
use Rattle.chart_run.proofs.machine.Machine.act.Goals as goal

pub returns-clause-acts : goal.returns-clause-acts
returns-clause-acts c =
    rw (c.take_effects-effects.ensures.out, ← c.in_ok-at.ensures)
    (acted_up c.args.tables.now c.in_ok-at.at (event_of c.args.m.now) c.args.self.now c.take.new.self.mind c.take.new.self.leaf c.in_ok-enabled.enabled (result_view c.result_of-result.result) c.take_effects-effects.new.self c.requires.notes c.requires.commands
    c.in_ok-enabled.ensures.handling (rw (← c.as_slice.ensures) c.result_of-result.ensures) c.take_effects-effects.ensures.leaf c.take_effects-effects.ensures.past c.take_effects-effects.ensures.vars)
