use Rattle.std.proofs.Common.{◌∙◌}
use Rattle.chart_run.specs.chart_tables.Tables.{trigger_view}
use Rattle.chart_compile.proofs.chart_rows.Lines.{copied_more, trigger_copied}
use Rattle.chart_compile.proofs.chart_rows.arrows.copy_triggers.Goals as goal

pub loop-trigger-preserved : goal.loop-trigger-preserved
loop-trigger-preserved c =
    let t = c.trigger-item.result in
    copied_more trigger_view c.loop-trigger.copies.items c.push.new.self.items (record { events = c.in_ok-events.events; guard = c.in_ok-guard.guard }) t c.args.triggers.now c.loop-trigger.trigger-index c.loop-trigger-test.true c.trigger-item.is c.in_ok-push.ensures.items (trigger_copied (record { events = c.in_ok-events.events; guard = c.in_ok-guard.guard }) t (c.in_ok-events.ensures.items ∙ c.as_slice.ensures.value) c.in_ok-guard.ensures) c.loop-trigger.invariant
