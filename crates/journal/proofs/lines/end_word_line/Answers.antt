use Rattle.std.proofs.Common.{List, ℕ, [], ◌∷◌}
use Rattle.std.specs.List.{concat}
use Rattle.std.proofs.lemmas.Result.{err_from_is_err_and}
use Rattle.room_outside.proofs.line_text.OutputLemmas.{puts_second, breaks_first}
use Rattle.journal.proofs.lines.end_word_line.Goals as goal

pub returns-in_err-put_one : goal.returns-in_err-put_one
returns-in_err-put_one g c =
    let p = err_from_is_err_and c.from_residual.result c.from_residual.ensures.1 in
    let word : List (List ℕ) = c.args.word.now ∷ [] in
    rw p.1 (breaks_first _ _ (concat word) (10 ∷ []) c.in_err-put_one.ensures)

pub returns : goal.returns
returns g c =
    let word : List (List ℕ) = c.args.word.now ∷ [] in
    puts_second _ _ _ _ (concat word) (10 ∷ []) c.in_ok-put_one.ensures c.end_line.ensures
