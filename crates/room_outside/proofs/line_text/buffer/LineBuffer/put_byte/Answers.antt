use Rattle.std.proofs.Common.{[], ◌∷◌}
use Rattle.std.proofs.lemmas.Result.{err_from_is_err_and}
use Rattle.room_outside.proofs.line_text.OutputLemmas.{breaks_first}
use Rattle.room_outside.proofs.line_text.buffer.LineBuffer.put_byte.Goals as goal

pub returns-in_err-make_room : goal.returns-in_err-make_room
returns-in_err-make_room g c =
    let p = err_from_is_err_and c.from_residual.result c.from_residual.ensures.1 in
    rw p.1 (breaks_first _ _ [] (c.args.byte ∷ []) c.in_err-make_room.ensures.puts)
