use Rattle.std.proofs.Common.{take, drop}
use Rattle.std.proofs.lemmas.Result.{err_from_is_err_and}
use Rattle.room_outside.proofs.line_text.Going.{going_begin, going_on, going_breaks}
use Rattle.room_show.proofs.ShowGoing.{going_attribute, going_attributes_end}
use Rattle.room_show.proofs.text.write_attributes.Goals as goal

pub loop-attribute-init : goal.loop-attribute-init
loop-attribute-init g c = going_begin _ _

pub loop-attribute-preserved : goal.loop-attribute-preserved
loop-attribute-preserved g c =
    rw c.numbers_behind-left.ensures (going_on _ _ _ _ _ _
    (going_attribute _ _ _ _ _ _ c.attribute-item.result c.loop-attribute-test.true c.attribute-item.is c.loop-attribute.invariant)
    (rw (c.as_bytes.ensures, c.first_numbers-own.ensures) at c.in_ok-write_attribute.ensures))

pub returns : goal.returns
returns g c = going_attributes_end _ _ _ _ _ _ c.loop-attribute-test.false c.loop-attribute.invariant

pub returns-in_err-write_attribute : goal.returns-in_err-write_attribute
returns-in_err-write_attribute g c =
    let p = err_from_is_err_and c.from_residual.result c.from_residual.ensures.1 in
    rw p.1 (going_breaks _ _ _ _ _ _
    (going_attribute _ _ _ _ _ _ c.attribute-item.result c.loop-attribute-test.true c.attribute-item.is c.loop-attribute.invariant)
    (rw (c.as_bytes.ensures, c.first_numbers-own.ensures) at c.in_err-write_attribute.ensures))
