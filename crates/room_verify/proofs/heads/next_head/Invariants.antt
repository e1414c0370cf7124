use Rattle.std.proofs.Common.{◌≡◌, length}
use Rattle.room_verify.specs.Heads.{FirstOf, left_of_party}
use Rattle.room_verify.proofs.heads.next_head.Given as goal

abbrev pub invariant-loop-party : goal.invariant-loop-party
invariant-loop-party l = record {
  first : FirstOf (left_of_party l.j l.passed) l.party l.next;
  end : l.party-end ≡ length l.passed;
}
