use Rattle.std.proofs.Common.{◌≡◌, replicate, []}
use Rattle.mail_seg.specs.Left.{lists_of}
use Rattle.mail_seg.proofs.drain.empty_lists.Given as goal

abbrev pub invariant-loop-party : goal.invariant-loop-party
invariant-loop-party l = lists_of l.lists.items ≡ replicate l._party []
