use Rattle.std.proofs.Common.{List, ℕ, [], ◌∷◌, codes, decimal}
use Rattle.std.proofs.lemmas.Result.{err_from_is_err_and}
use Rattle.journal.specs.Lines.{message_parts}
use Rattle.journal.proofs.LineLemmas.{line_second, line_break_first}
use Rattle.journal.proofs.entries.write_post.Goals as goal

pub returns-in_err-put_four : goal.returns-in_err-put_four
returns-in_err-put_four g c =
    let p = err_from_is_err_and c.from_residual.result c.from_residual.ensures.1 in
    let head : List (List ℕ) = decimal c.args.stamp.0 ∷ codes " post " ∷ decimal c.args.msg.now.to.0 ∷ codes " " ∷ [] in
    let fault = rw (c.clear.ensures, c.from.ensures) at c.in_err-put_four.ensures in
    rw p.1 (line_break_first _ _ head (message_parts c.args.wiring.now c.args.msg.now) fault)

pub returns : goal.returns
returns g c =
    let head : List (List ℕ) = decimal c.args.stamp.0 ∷ codes " post " ∷ decimal c.args.msg.now.to.0 ∷ codes " " ∷ [] in
    let put = rw (c.clear.ensures, c.from.ensures) at c.in_ok-put_four.ensures in
    line_second _ _ _ _ head (message_parts c.args.wiring.now c.args.msg.now) put c.end_message_line.ensures
