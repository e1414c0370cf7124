use Rattle.std.proofs.Common.{◌≡◌, take, length}
use Rattle.room_verify.proofs.checks.same_entries.Given as goal

abbrev pub invariant-loop-i : goal.invariant-loop-i
invariant-loop-i l = record {
  same : take l.i l.a ≡ take l.i l.b;
  end : l.i-end ≡ length l.a;
}
