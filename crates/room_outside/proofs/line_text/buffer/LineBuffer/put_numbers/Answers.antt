use Rattle.std.proofs.Common.{◌∷◌, List, ℕ, ℤ}
use Rattle.std.specs.Fmt.{signed_decimal}
use Rattle.std.proofs.lemmas.Result.{err_from_is_err_and}
use Rattle.room_outside.proofs.line_text.Going.{going_begin, going_on, going_at, going_all, going_breaks}
use Rattle.room_outside.proofs.line_text.buffer.LineBuffer.put_numbers.Goals as goal

abbrev after_blank : ℤ → List ℕ
after_blank z = 32 ∷ signed_decimal z

pub loop-number-preserved : goal.loop-number-preserved
loop-number-preserved g c =
    going_on _ _ _ _ _ _ (going_at after_blank _ _ _ _ _ _ c.loop-number-test.true c.loop-number.invariant) c.in_ok-put_after_blank.ensures

pub loop-number-init : goal.loop-number-init
loop-number-init g c = going_begin _ _

pub returns : goal.returns
returns g c = going_all after_blank _ _ _ _ _ c.loop-number-test.false c.loop-number.invariant

pub returns-in_err-put_after_blank : goal.returns-in_err-put_after_blank
returns-in_err-put_after_blank g c =
    let p = err_from_is_err_and c.from_residual.result c.from_residual.ensures.1 in
    rw p.1 (going_breaks _ _ _ _ _ _ (going_at after_blank _ _ _ _ _ _ c.loop-number-test.true c.loop-number.invariant) c.in_err-put_after_blank.ensures)
