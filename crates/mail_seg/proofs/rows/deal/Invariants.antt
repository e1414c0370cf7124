use Rattle.std.proofs.Common.{◌≡◌}
use Rattle.mail_seg.specs.Sides.{side, poster_side}
use Rattle.mail_seg.specs.Rows.{rows_of, Dealt}
use Rattle.mail_seg.proofs.rows.deal.Given as goal

abbrev pub invariant-loop-party : goal.invariant-loop-party
invariant-loop-party l =
    let a = side l.fn.own in
    record {
      own : side l.own ≡ record a { next = l.party };
      dealt : Dealt l.from l.party (poster_side a.to a.prio a.queue) (rows_of l.fn.rows.items) (rows_of l.rows.items);
    }
