use Rattle.std.proofs.Common.{List, ℕ, [], ◌∷◌, codes, decimal}
use Rattle.std.specs.List.{concat}
use Rattle.std.proofs.lemmas.Result.{err_from_is_err_and}
use Rattle.room_wiring.specs.Slots.{path_text}
use Rattle.room_outside.proofs.line_text.OutputLemmas.{puts_second, breaks_first}
use Rattle.journal.proofs.lines.put_actor.Goals as goal

pub returns-in_err-put_path : goal.returns-in_err-put_path
returns-in_err-put_path g c =
    let p = err_from_is_err_and c.from_residual.result c.from_residual.ensures.1 in
    let behind : List (List ℕ) = codes "#" ∷ decimal c.args.endpoint.generation.0 ∷ codes "." ∷ [] in
    rw p.1 (breaks_first _ _ (path_text c.args.wiring.now c.args.endpoint.slot.0) (concat behind) c.in_err-put_path.ensures)

pub returns : goal.returns
returns g c =
    let behind : List (List ℕ) = codes "#" ∷ decimal c.args.endpoint.generation.0 ∷ codes "." ∷ [] in
    let put = rw c.from.ensures at c.put_three.ensures in
    puts_second _ _ _ _ (path_text c.args.wiring.now c.args.endpoint.slot.0) (concat behind) c.in_ok-put_path.ensures put
