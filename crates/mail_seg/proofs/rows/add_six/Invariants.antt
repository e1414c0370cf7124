use Rattle.std.proofs.Common.{◌+◌, ◌*◌}
use Rattle.mail_seg.specs.Rows.{rows_of, RowsTo}
use Rattle.mail_seg.proofs.rows.add_six.Given as goal

abbrev pub invariant-loop-step : goal.invariant-loop-step
invariant-loop-step l = RowsTo (l.receiver * 6 + l.step) l.parties (rows_of l.rows.items)
