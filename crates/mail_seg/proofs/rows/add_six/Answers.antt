use Rattle.std.proofs.Common.{◌+◌, ◌*◌, refl, arith, subst, ◌≡◌}
use Rattle.mail_seg.specs.Rows.{rows_of, RowsTo}
use Rattle.mail_seg.proofs.RowLemmas.{RowsTo-step}
use Rattle.mail_seg.proofs.rows.add_six.Goals as goal

pub loop-step-preserved : goal.loop-step-preserved
loop-step-preserved c =
    let more : (c.args.receiver * 6 + c.loop-step.step) + 1 ≡ c.args.receiver * 6 + (c.loop-step.step + 1) = omega arith in
    subst (λ k. RowsTo k c.args.parties (rows_of c.add_box.new.rows.items)) more
    (RowsTo-step {r = c.args.receiver} {b = c.loop-step.step} c.loop-step.invariant c.in_ok-add_box.ensures.1 refl c.loop-step-test.true refl)
