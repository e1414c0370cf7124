use Rattle.std.proofs.Common.{List, ℕ, [], ◌∷◌}
use Rattle.std.proofs.lemmas.Result.{err_from_is_err_and}
use Rattle.journal.specs.Names.{incarnation_parts}
use Rattle.room_outside.proofs.line_text.PartLemmas.{parts_second, parts_break_first}
use Rattle.journal.proofs.lines.put_named.Goals as goal

pub returns-in_err-put_one : goal.returns-in_err-put_one
returns-in_err-put_one g c =
    let p = err_from_is_err_and c.from_residual.result c.from_residual.ensures.1 in
    let word : List (List ℕ) = c.args.word.now ∷ [] in
    rw p.1 (parts_break_first _ _ word (incarnation_parts c.args.wiring.now c.args.who) c.in_err-put_one.ensures)

pub returns : goal.returns
returns g c =
    let word : List (List ℕ) = c.args.word.now ∷ [] in
    parts_second _ _ _ _ word (incarnation_parts c.args.wiring.now c.args.who) c.in_ok-put_one.ensures c.put_incarnation.ensures
