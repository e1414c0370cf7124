use Rattle.std.proofs.Common.{◌-◌, length}
use Rattle.service_messages.proofs.slot_runs.RunLemmas.{RunsTo}
use Rattle.service_messages.proofs.slot_runs.runs.end_from.Given as goal

abbrev pub invariant-loop-end : goal.invariant-loop-end
invariant-loop-end l = RunsTo l.wiring l.slot l.end

abbrev pub decreases-loop-end : goal.decreases-loop-end
decreases-loop-end l = length l.wiring.slots - l.end
