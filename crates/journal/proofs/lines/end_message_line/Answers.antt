use Rattle.std.proofs.Common.{[], ◌∷◌}
use Rattle.std.specs.List.{concat}
use Rattle.std.proofs.lemmas.Result.{err_from_is_err_and}
use Rattle.journal.specs.Lines.{message_parts}
use Rattle.room_outside.proofs.line_text.OutputLemmas.{puts_second, breaks_first}
use Rattle.journal.proofs.lines.end_message_line.Goals as goal

pub returns-in_err-put_message : goal.returns-in_err-put_message
returns-in_err-put_message g c =
    let p = err_from_is_err_and c.from_residual.result c.from_residual.ensures.1 in
    rw p.1 (breaks_first _ _ (concat (message_parts c.args.wiring.now c.args.msg.now)) (10 ∷ []) c.in_err-put_message.ensures)

pub returns : goal.returns
returns g c = puts_second _ _ _ _ (concat (message_parts c.args.wiring.now c.args.msg.now)) (10 ∷ []) c.in_ok-put_message.ensures c.end_line.ensures
