use Rattle.std.proofs.Common.{List, ℕ, [], ◌∷◌, codes, decimal}
use Rattle.std.proofs.lemmas.Result.{err_from_is_err_and}
use Rattle.journal.specs.Names.{party_text}
use Rattle.room_outside.proofs.line_text.PartLemmas.{parts_second, parts_break_first}
use Rattle.journal.proofs.entries.put_turn_head.Goals as goal

pub returns-in_err-put_two : goal.returns-in_err-put_two
returns-in_err-put_two g c =
    let p = err_from_is_err_and c.from_residual.result c.from_residual.ensures.1 in
    let h = c.args.head in
    let stamp : List (List ℕ) = decimal h.stamp.0 ∷ codes " turn " ∷ [] in
    let sent : List (List ℕ) = party_text c.args.wiring.now h.from.0 ∷ codes "@" ∷ decimal h.sent.0 ∷ [] in
    rw p.1 (parts_break_first _ _ stamp sent c.in_err-put_two.ensures)

pub returns : goal.returns
returns g c =
    let h = c.args.head in
    let stamp : List (List ℕ) = decimal h.stamp.0 ∷ codes " turn " ∷ [] in
    let sent : List (List ℕ) = party_text c.args.wiring.now h.from.0 ∷ codes "@" ∷ decimal h.sent.0 ∷ [] in
    let put = rw c.party.ensures at c.put_three.ensures in
    parts_second _ _ _ _ stamp sent c.in_ok-put_two.ensures put
