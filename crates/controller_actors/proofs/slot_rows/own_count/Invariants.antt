use Rattle.std.proofs.Common.{◌≡◌}
use Rattle.controller_actors.specs.Rows.{own_below}
use Rattle.controller_actors.proofs.slot_rows.own_count.Given as goal

-- those below were counted
abbrev pub invariant-loop-number : goal.invariant-loop-number
invariant-loop-number l = l.count ≡ own_below l.wiring l.me.0 l.number
