use Rattle.std.proofs.Common.{List, ℕ, [], ◌∷◌}
use Rattle.std.specs.List.{concat}
use Rattle.std.proofs.lemmas.Result.{err_from_is_err_and}
use Rattle.journal.specs.Names.{incarnation_parts}
use Rattle.room_outside.proofs.line_text.OutputLemmas.{puts_second, breaks_first}
use Rattle.journal.proofs.lines.end_actor_line.Goals as goal

pub returns-in_err-put_named : goal.returns-in_err-put_named
returns-in_err-put_named g c =
    let p = err_from_is_err_and c.from_residual.result c.from_residual.ensures.1 in
    let named : List (List ℕ) = c.args.word.now ∷ incarnation_parts c.args.wiring.now c.args.who in
    rw p.1 (breaks_first _ _ (concat named) (10 ∷ []) c.in_err-put_named.ensures)

pub returns : goal.returns
returns g c =
    let named : List (List ℕ) = c.args.word.now ∷ incarnation_parts c.args.wiring.now c.args.who in
    puts_second _ _ _ _ (concat named) (10 ∷ []) c.in_ok-put_named.ensures c.end_line.ensures
