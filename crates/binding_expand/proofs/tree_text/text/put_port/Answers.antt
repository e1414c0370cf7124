use Rattle.std.proofs.Common.{List, ℕ, [], ◌∷◌, codes, decimal}
use Rattle.std.proofs.lemmas.Result.{err_from_is_err_and}
use Rattle.room_wiring.specs.Slots.{port_text}
use Rattle.room_outside.proofs.line_text.PartLemmas.{parts_second, parts_break_first}
use Rattle.binding_expand.proofs.tree_text.text.put_port.Goals as goal

pub returns-in_err-put_two : goal.returns-in_err-put_two
returns-in_err-put_two g c =
    let p = err_from_is_err_and c.from_residual.result c.from_residual.ensures.1 in
    let e = c.args.place in
    let port : List (List ℕ) = codes "." ∷ port_text c.args.wiring.now e.slot.0 e.port ∷ [] in
    let place : List (List ℕ) = codes "[" ∷ decimal e.place ∷ codes "]" ∷ [] in
    let fault = rw c.port_name-name.ensures at c.in_err-put_two.ensures in
    rw p.1 (parts_break_first _ _ port place fault)

pub returns : goal.returns
returns g c =
    let e = c.args.place in
    let port : List (List ℕ) = codes "." ∷ port_text c.args.wiring.now e.slot.0 e.port ∷ [] in
    let place : List (List ℕ) = codes "[" ∷ decimal e.place ∷ codes "]" ∷ [] in
    let first = rw c.port_name-name.ensures at c.in_ok-put_two.ensures in
    let second = rw c.from-number.ensures at c.put_three.ensures in
    parts_second _ _ _ _ port place first second
