use Rattle.std.proofs.Common.{◌-◌}
use Rattle.service_messages.proofs.slot_runs.Sought.{IsSought}
use Rattle.service_messages.proofs.slot_runs.runs.SlotRuns.part_numbered.Given as goal

abbrev pub invariant-loop-part : goal.invariant-loop-part
invariant-loop-part l = IsSought l.wiring l.container.0 l.reference l.index l.end l.part

abbrev pub decreases-loop-part : goal.decreases-loop-part
decreases-loop-part l = l.end - l.part
