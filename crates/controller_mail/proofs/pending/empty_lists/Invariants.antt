use Rattle.std.proofs.Common.{◌≡◌, [], replicate}
use Rattle.controller_mail.proofs.pending.empty_lists.Given as goal

abbrev pub invariant-loop-prio : goal.invariant-loop-prio
invariant-loop-prio l = l.lists.items ≡ replicate l._prio []
