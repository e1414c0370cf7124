use Rattle.std.proofs.Common.{◌≡◌, length}
use Rattle.controller_mail.proofs.pending.make_room_in_each.Given as goal

abbrev pub invariant-loop-i : goal.invariant-loop-i
invariant-loop-i l = record {
  same : l.lists.items ≡ l.fn.lists.items;
  end : l.i-end ≡ length l.fn.lists.items;
}
