use Rattle.std.proofs.Common.{◌≡◌, ◌-◌, ◌++◌}
use Rattle.mail_seg.specs.Sides.{side}
use Rattle.mail_seg.specs.Left.{queues_of, pass_at, Fronts, gathered}
use Rattle.mail_seg.proofs.drain.take_in.Given as goal

abbrev pub invariant-loop-party : goal.invariant-loop-party
invariant-loop-party l =
    let rows = queues_of l.fn.rows.items in
    record {
      own : side l.own ≡ record (side l.fn.own) { posts = (side l.fn.own).posts ++ gathered (pass_at rows 0) l.from (l.party - l.from) };
      fronts : Fronts l.from l.party rows (queues_of l.rows.items);
    }
