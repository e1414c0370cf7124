use Rattle.std.proofs.Common.{◌≡◌, ℕ, ◌<◌, length}
use Rattle.room_verify.specs.Promptness.{IsPromptByCounts}
use Rattle.room_verify.proofs.promptness.first_unprompt.Given as goal

abbrev pub invariant-loop-c : goal.invariant-loop-c
invariant-loop-c l = record {
  before : (k : ℕ) → k < l.c → IsPromptByCounts l.j k;
  end : l.c-end ≡ length l.j.controllers;
}
