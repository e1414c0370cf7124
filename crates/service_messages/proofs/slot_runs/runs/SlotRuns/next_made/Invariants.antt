use Rattle.std.proofs.Common.{◌-◌}
use Rattle.service_messages.proofs.slot_runs.Made.{IsSearched}
use Rattle.service_messages.proofs.slot_runs.runs.SlotRuns.next_made.Given as goal

abbrev pub invariant-loop-next : goal.invariant-loop-next
invariant-loop-next l = IsSearched l.wiring l.fn.top.0 l.end l.fn.slot.0 l.next

abbrev pub decreases-loop-next : goal.decreases-loop-next
decreases-loop-next l = l.end - l.next
