use Rattle.std.proofs.Common.{◌≡◌, ℕ, ◌+◌, ◌<◌, length}
use Rattle.room_verify.specs.Checks.{IsInOrder}
use Rattle.room_verify.proofs.checks.first_out_of_order.Given as goal

abbrev pub invariant-loop-party : goal.invariant-loop-party
invariant-loop-party l = record {
  before : (k : ℕ) → k < l.party → IsInOrder l.j k;
  end : l.party-end ≡ length l.j.controllers + 1;
}
