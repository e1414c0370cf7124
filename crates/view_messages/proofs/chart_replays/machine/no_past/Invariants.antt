use Rattle.std.proofs.Common.{◌≡◌, vec_len}
use Rattle.view_messages.proofs.chart_replays.machine.no_past.Given as goal

abbrev pub invariant-loop-i : goal.invariant-loop-i
invariant-loop-i l = vec_len l.past ≡ l._i
