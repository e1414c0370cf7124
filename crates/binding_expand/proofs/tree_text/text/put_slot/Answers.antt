use Rattle.std.proofs.Common.{List, ℕ, [], ◌∷◌, codes, decimal}
use Rattle.std.proofs.lemmas.Result.{err_from_is_err_and}
use Rattle.binding_expand.specs.tree_text.Names.{kind_text}
use Rattle.room_outside.proofs.line_text.PartLemmas.{parts_second, parts_break_first}
use Rattle.binding_expand.proofs.tree_text.text.put_slot.Goals as goal

pub returns-in_err-put_four : goal.returns-in_err-put_four
returns-in_err-put_four g c =
    let p = err_from_is_err_and c.from_residual.result c.from_residual.ensures.1 in
    let x = c.args.slot.now in
    let numbers : List (List ℕ) = codes "slot " ∷ decimal c.args.s.0 ∷ codes " " ∷ decimal x.owner.0 ∷ [] in
    let kind : List (List ℕ) = codes " " ∷ kind_text x.kind ∷ codes " " ∷ [] in
    let fault = rw (c.from-number.ensures, c.from-owner.ensures) at c.in_err-put_four.ensures in
    rw p.1 (parts_break_first _ _ numbers kind fault)

pub returns : goal.returns
returns g c =
    let x = c.args.slot.now in
    let numbers : List (List ℕ) = codes "slot " ∷ decimal c.args.s.0 ∷ codes " " ∷ decimal x.owner.0 ∷ [] in
    let kind : List (List ℕ) = codes " " ∷ kind_text x.kind ∷ codes " " ∷ [] in
    let first = rw (c.from-number.ensures, c.from-owner.ensures) at c.in_ok-put_four.ensures in
    let second = rw c.kind_word.ensures at c.put_three.ensures in
    parts_second _ _ _ _ numbers kind first second
