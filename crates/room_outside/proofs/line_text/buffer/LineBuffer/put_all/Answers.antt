use Rattle.std.proofs.lemmas.Result.{err_from_is_err_and}
use Rattle.room_outside.specs.line_text.Parts.{part_text}
use Rattle.room_outside.proofs.line_text.Going.{going_begin, going_on, going_at, going_all, going_breaks, joined_parts}
use Rattle.room_outside.proofs.line_text.buffer.LineBuffer.put_all.Goals as goal

pub loop-part-init : goal.loop-part-init
loop-part-init g c = going_begin _ _

pub loop-part-preserved : goal.loop-part-preserved
loop-part-preserved g c =
    going_on _ _ _ _ _ _ (going_at part_text _ _ _ _ _ _ c.loop-part-test.true c.loop-part.invariant) c.in_ok-put_part.ensures

pub returns : goal.returns
returns g c = rw joined_parts (going_all part_text _ _ _ _ _ c.loop-part-test.false c.loop-part.invariant)

pub returns-in_err-put_part : goal.returns-in_err-put_part
returns-in_err-put_part g c =
    let p = err_from_is_err_and c.from_residual.result c.from_residual.ensures.1 in
    rw (p.1, joined_parts)
    (going_breaks _ _ _ _ _ _ (going_at part_text _ _ _ _ _ _ c.loop-part-test.true c.loop-part.invariant) c.in_err-put_part.ensures)
