use Rattle.std.proofs.Common.{List, ℕ, [], ◌∷◌, ◌++◌, codes}
use Rattle.std.specs.List.{concat}
use Rattle.std.proofs.lemmas.Result.{err_from_is_err_and}
use Rattle.binding_expand.specs.tree_text.Names.{place_parts}
use Rattle.room_outside.proofs.line_text.OutputLemmas.{puts_second, breaks_first}
use Rattle.room_outside.proofs.line_text.PartLemmas.{parts_two, parts_break_first, parts_break_second}
use Rattle.binding_expand.proofs.tree_text.text.write_tie.Goals as goal

pub returns-in_err-put_at : goal.returns-in_err-put_at
returns-in_err-put_at g c =
    let p = err_from_is_err_and c.from_residual.result c.from_residual.ensures.1 in
    let t = c.args.wiring.now in
    let a : List (List ℕ) = c.args.word.now ∷ place_parts t c.args.a in
    let b : List (List ℕ) = codes " " ∷ place_parts t c.args.b in
    let fault = rw c.clear.ensures at c.in_err-put_at.ensures in
    rw p.1 (breaks_first _ _ (concat (a ++ b)) (10 ∷ []) (parts_break_first _ _ a b fault))

pub returns-in_err-put_at-2 : goal.returns-in_err-put_at-2
returns-in_err-put_at-2 g c =
    let p = err_from_is_err_and c.from_residual-in_err-put_at-2.result c.from_residual-in_err-put_at-2.ensures.1 in
    let t = c.args.wiring.now in
    let a : List (List ℕ) = c.args.word.now ∷ place_parts t c.args.a in
    let b : List (List ℕ) = codes " " ∷ place_parts t c.args.b in
    let first = rw c.clear.ensures at c.in_ok-put_at.ensures in
    rw p.1 (breaks_first _ _ (concat (a ++ b)) (10 ∷ []) (parts_break_second _ _ _ a b first c.in_err-put_at-2.ensures))

pub returns : goal.returns
returns g c =
    let t = c.args.wiring.now in
    let a : List (List ℕ) = c.args.word.now ∷ place_parts t c.args.a in
    let b : List (List ℕ) = codes " " ∷ place_parts t c.args.b in
    let first = rw c.clear.ensures at c.in_ok-put_at.ensures in
    puts_second _ _ _ _ (concat (a ++ b)) (10 ∷ []) (parts_two _ _ _ a b first c.in_ok-put_at-2.ensures) c.end_line.ensures
