use Rattle.std.proofs.Common.{◌≡◌, ℕ, ◌<◌, [], length, slice_index_or}
use Rattle.model_run.specs.run_ends.Runs.{journal_of}
use Rattle.room_verify.specs.Checks.{BeginsWithStarts}
use Rattle.room_verify.proofs.checks.first_wrong_start.Given as goal

abbrev pub invariant-loop-c : goal.invariant-loop-c
invariant-loop-c l = record {
  before : (k : ℕ) → k < l.c → BeginsWithStarts (slice_index_or l.starts k []) (journal_of l.j k);
  end : l.c-end ≡ length l.starts;
}
