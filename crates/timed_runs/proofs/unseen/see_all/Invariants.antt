use Rattle.std.proofs.Common.{◌≡◌, ◌+◌, false, if◌then◌else◌, length, None}
use Rattle.model_run.specs.part_source.Calls.{seen}
use Rattle.timed_runs.specs.Unseen.{journal_at, stamp_at, earliest_of}
use Rattle.timed_runs.proofs.Looking.{SoFar, to_see}
use Rattle.timed_runs.proofs.unseen.see_all.Given as goal

abbrev pub invariant-loop-more : goal.invariant-loop-more
invariant-loop-more l = record {
  so_far : SoFar l.wiring (journal_at l.wiring (seen l.controllers l.environment)) l.fn.counts.items l.counts.items l.fn.timers l.timers;
  none : l.more ≡ false → earliest_of (stamp_at (journal_at l.wiring (seen l.controllers l.environment)) l.counts.items) (length l.wiring.controllers + 1) ≡ None;
}

abbrev pub decreases-loop-more : goal.decreases-loop-more
decreases-loop-more l =
    to_see (journal_at l.wiring (seen l.controllers l.environment)) l.counts.items 0 + (if l.more then 1 else 0)
