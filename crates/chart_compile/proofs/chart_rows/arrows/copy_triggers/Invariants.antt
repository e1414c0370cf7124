use Rattle.std.proofs.Common.{◌≡◌, map, take}
use Rattle.chart_run.specs.chart_tables.Tables.{trigger_view}
use Rattle.chart_compile.proofs.chart_rows.arrows.copy_triggers.Given as goal

abbrev pub invariant-loop-trigger : goal.invariant-loop-trigger
invariant-loop-trigger l = map trigger_view l.copies.items ≡ map trigger_view (take l.trigger-index l.triggers)
