use Rattle.std.proofs.Common.{◌≡◌, replicate, []}
use Rattle.mail_seg.specs.Rows.{rows_of}
use Rattle.mail_seg.proofs.rows.no_passes.Given as goal

abbrev pub invariant-loop-party : goal.invariant-loop-party
invariant-loop-party l = rows_of l.rows.items ≡ replicate l._party []
