use Rattle.std.proofs.Common.{List, ℕ, [], ◌∷◌, codes, decimal}
use Rattle.std.proofs.lemmas.Result.{err_from_is_err_and}
use Rattle.room_outside.proofs.line_text.PartLemmas.{parts_second, parts_break_first}
use Rattle.tied_journals.specs.Text.{sent_parts}
use Rattle.tied_journals.proofs.fetches.begin_fetches.Goals as goal

pub returns-in_err-put_two : goal.returns-in_err-put_two
returns-in_err-put_two g c =
    let p = err_from_is_err_and c.from_residual.result c.from_residual.ensures.1 in
    let stamp : List (List ℕ) = decimal c.args.stamp.0 ∷ codes " fetch" ∷ [] in
    let fault = rw c.clear.ensures at c.in_err-put_two.ensures in
    rw p.1 (parts_break_first _ _ stamp (sent_parts c.args.wiring.now c.args.msg.now) fault)

pub returns : goal.returns
returns g c =
    let stamp : List (List ℕ) = decimal c.args.stamp.0 ∷ codes " fetch" ∷ [] in
    let put = rw c.clear.ensures at c.in_ok-put_two.ensures in
    parts_second _ _ _ _ stamp (sent_parts c.args.wiring.now c.args.msg.now) put c.put_further.ensures
