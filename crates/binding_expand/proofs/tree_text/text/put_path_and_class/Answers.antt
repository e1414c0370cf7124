use Rattle.std.proofs.Common.{List, ℕ, [], ◌∷◌, codes}
use Rattle.std.specs.List.{concat}
use Rattle.std.proofs.lemmas.Result.{err_from_is_err_and}
use Rattle.binding_expand.specs.tree_text.Names.{class_text}
use Rattle.room_outside.proofs.line_text.OutputLemmas.{puts_second, breaks_first}
use Rattle.binding_expand.proofs.tree_text.text.put_path_and_class.Goals as goal

pub returns-in_err-put : goal.returns-in_err-put
returns-in_err-put g c =
    let p = err_from_is_err_and c.from_residual.result c.from_residual.ensures.1 in
    let class : List (List ℕ) = codes " " ∷ class_text c.args.wiring.now c.args.slot.now.class ∷ [] in
    rw p.1 (breaks_first _ _ c.args.slot.now.path (concat class) c.in_err-put.ensures)

pub returns : goal.returns
returns g c =
    let class : List (List ℕ) = codes " " ∷ class_text c.args.wiring.now c.args.slot.now.class ∷ [] in
    let second = rw c.class_name-class.ensures at c.put_two.ensures in
    puts_second _ _ _ _ c.args.slot.now.path (concat class) c.in_ok-put.ensures second
