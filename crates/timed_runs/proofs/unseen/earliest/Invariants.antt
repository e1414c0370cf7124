use Rattle.std.proofs.Common.{◌≡◌}
use Rattle.model_run.specs.part_source.Calls.{seen}
use Rattle.timed_runs.specs.Unseen.{journal_at, stamp_at, earliest_of}
use Rattle.timed_runs.proofs.unseen.earliest.Given as goal

abbrev pub invariant-loop-party : goal.invariant-loop-party
invariant-loop-party l = l.first ≡ earliest_of (stamp_at (journal_at l.wiring (seen l.controllers l.environment)) l.counts) l.party
