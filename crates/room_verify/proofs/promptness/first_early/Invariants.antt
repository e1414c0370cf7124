use Rattle.std.proofs.Common.{◌≡◌, ℕ, ◌<◌, take, length}
use Rattle.room_verify.specs.Promptness.{Counts, MayByCounts, TurnAt}
use Rattle.room_verify.proofs.promptness.first_early.Given as goal

abbrev pub invariant-loop-i : goal.invariant-loop-i
invariant-loop-i l = record {
  counts : Counts l.journal l.c.0 l.prio.0 l.i l.counts;
  before : (k : ℕ) → k < l.i → TurnAt l.journal k → MayByCounts l.c.0 l.prio.0 (take k l.journal);
  end : l.i-end ≡ length l.journal;
}
