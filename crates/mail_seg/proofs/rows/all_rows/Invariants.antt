use Rattle.std.proofs.Common.{◌*◌}
use Rattle.mail_seg.specs.Rows.{rows_of, RowsTo}
use Rattle.mail_seg.proofs.rows.all_rows.Given as goal

abbrev pub invariant-loop-receiver : goal.invariant-loop-receiver
invariant-loop-receiver l = RowsTo (l.receiver * 6) l.parties (rows_of l.rows.items)
