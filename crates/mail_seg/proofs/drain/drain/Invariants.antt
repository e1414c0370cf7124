use Rattle.mail_seg.specs.Sides.{side}
use Rattle.mail_seg.specs.Left.{lists_of, TookMore}
use Rattle.mail_seg.proofs.drain.drain.Given as goal

abbrev pub invariant-loop-look : goal.invariant-loop-look
invariant-loop-look g l = TookMore (side l.fn.own) (side l.own) (lists_of l.fn.lists.items) (lists_of l.lists.items)
