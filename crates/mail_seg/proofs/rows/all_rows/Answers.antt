use Rattle.std.proofs.Common.{subst, sym}
use Rattle.mail_seg.specs.Rows.{RowsTo}
use Rattle.mail_seg.proofs.RowLemmas.{RowsTo-none}
use Rattle.mail_seg.proofs.rows.all_rows.Goals as goal

pub loop-receiver-init : goal.loop-receiver-init
loop-receiver-init c = subst (RowsTo 0 c.args.parties) (sym c.in_ok-rows.ensures) (RowsTo-none c.args.parties)
