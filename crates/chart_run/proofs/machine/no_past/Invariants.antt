use Rattle.std.proofs.Common.{◌≡◌, None, replicate}
use Rattle.chart_run.proofs.machine.no_past.Given as goal

abbrev pub invariant-loop-i : goal.invariant-loop-i
invariant-loop-i l = l.past.items ≡ replicate l._i None
