use Rattle.std.proofs.Common.{List, ℕ, [], ◌∷◌}
use Rattle.std.proofs.lemmas.Result.{err_from_is_err_and}
use Rattle.binding_expand.specs.tree_text.Names.{place_parts}
use Rattle.room_outside.proofs.line_text.PartLemmas.{parts_second, parts_break_first}
use Rattle.binding_expand.proofs.tree_text.text.put_at.Goals as goal

pub returns-in_err-put_one : goal.returns-in_err-put_one
returns-in_err-put_one g c =
    let p = err_from_is_err_and c.from_residual.result c.from_residual.ensures.1 in
    let word : List (List ℕ) = c.args.word.now ∷ [] in
    rw p.1 (parts_break_first _ _ word (place_parts c.args.wiring.now c.args.place) c.in_err-put_one.ensures)

pub returns : goal.returns
returns g c =
    let word : List (List ℕ) = c.args.word.now ∷ [] in
    parts_second _ _ _ _ word (place_parts c.args.wiring.now c.args.place) c.in_ok-put_one.ensures c.put_place.ensures
