use Rattle.std.proofs.lemmas.Result.{err_from_is_err_and}
use Rattle.journal.specs.Lines.{turn_parts, did_parts}
use Rattle.journal.proofs.LineLemmas.{line_second, line_break_first}
use Rattle.journal.proofs.entries.write_turn.Goals as goal

pub returns-in_err-put_turn_head : goal.returns-in_err-put_turn_head
returns-in_err-put_turn_head g c =
    let p = err_from_is_err_and c.from_residual.result c.from_residual.ensures.1 in
    let h = c.args.head in
    let t = c.args.wiring.now in
    let fault = rw c.clear.ensures at c.in_err-put_turn_head.ensures in
    rw p.1 (line_break_first _ _ (turn_parts t h.stamp.0 h.from.0 h.sent.0) (did_parts t c.args.did) fault)

pub returns : goal.returns
returns g c =
    let h = c.args.head in
    let t = c.args.wiring.now in
    let put = rw c.clear.ensures at c.in_ok-put_turn_head.ensures in
    line_second _ _ _ _ (turn_parts t h.stamp.0 h.from.0 h.sent.0) (did_parts t c.args.did) put c.end_turn_line.ensures
