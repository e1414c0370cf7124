use Rattle.std.proofs.Common.{◌-◌}
use Rattle.service_messages.proofs.slot_runs.OwnParts.{NonePart}
use Rattle.service_messages.proofs.slot_runs.runs.SlotRuns.has_part.Given as goal

abbrev pub invariant-loop-next : goal.invariant-loop-next
invariant-loop-next l = NonePart l.wiring l.fn.controller.0 l.fn.top.0 l.end l.next

abbrev pub decreases-loop-next : goal.decreases-loop-next
decreases-loop-next l = l.end - l.next
