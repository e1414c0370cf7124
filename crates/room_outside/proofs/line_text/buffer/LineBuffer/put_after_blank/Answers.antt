use Rattle.std.proofs.Common.{[], ◌∷◌}
use Rattle.std.specs.Fmt.{signed_decimal}
use Rattle.std.proofs.lemmas.Result.{err_from_is_err_and}
use Rattle.room_outside.proofs.line_text.OutputLemmas.{breaks_first, puts_second}
use Rattle.room_outside.proofs.line_text.buffer.LineBuffer.put_after_blank.Goals as goal

pub returns-in_err-put_byte : goal.returns-in_err-put_byte
returns-in_err-put_byte g c =
    let p = err_from_is_err_and c.from_residual.result c.from_residual.ensures.1 in
    rw p.1 (breaks_first _ _ (32 ∷ []) (signed_decimal c.args.number.now) c.in_err-put_byte.ensures)

pub returns : goal.returns
returns g c = puts_second _ _ _ _ (32 ∷ []) (signed_decimal c.args.number.now) c.in_ok-put_byte.ensures c.put_signed.ensures
