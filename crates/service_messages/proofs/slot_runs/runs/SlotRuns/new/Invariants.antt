use Rattle.std.proofs.Common.{◌≡◌, ℕ, ◌<◌, ◌≤◌, length, get_or}
use Rattle.service_messages.specs.slot_runs.Runs.{IsRunEnd}
use Rattle.service_messages.proofs.slot_runs.runs.SlotRuns.new.Given as goal

abbrev pub invariant-loop-slot : goal.invariant-loop-slot
invariant-loop-slot l = record {
  count : length l.ends.items ≡ length l.wiring.slots;
  known : (u : ℕ) → l.slot ≤ u → u < length l.wiring.slots → IsRunEnd l.wiring u (get_or l.ends.items u 0);
}
