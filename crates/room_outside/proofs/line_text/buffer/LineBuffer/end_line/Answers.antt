use Rattle.std.proofs.Common.{[], ◌∷◌}
use Rattle.room_outside.proofs.line_text.OutputLemmas.{puts_second, puts_rest}
use Rattle.room_outside.proofs.line_text.buffer.LineBuffer.end_line.Goals as goal

pub returns : goal.returns
returns g c =
    puts_second _ _ _ _ (10 ∷ []) [] c.in_ok-put_byte.ensures
    (puts_rest _ _ _ _ [] c.flush.ensures.empty c.flush.ensures.puts)
