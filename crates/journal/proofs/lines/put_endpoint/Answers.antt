use Rattle.std.proofs.Common.{List, ℕ, [], ◌∷◌, codes, decimal}
use Rattle.std.proofs.lemmas.Result.{err_from_is_err_and}
use Rattle.room_wiring.specs.Slots.{path_text, port_text}
use Rattle.room_outside.proofs.line_text.PartLemmas.{parts_second, parts_break_first}
use Rattle.journal.proofs.lines.put_endpoint.Goals as goal

pub returns-in_err-put_actor : goal.returns-in_err-put_actor
returns-in_err-put_actor g c =
    let p = err_from_is_err_and c.from_residual.result c.from_residual.ensures.1 in
    let t = c.args.wiring.now in
    let e = c.args.endpoint in
    let actor : List (List ℕ) = path_text t e.slot.0 ∷ codes "#" ∷ decimal e.generation.0 ∷ codes "." ∷ [] in
    let place : List (List ℕ) = port_text t e.slot.0 e.port ∷ codes "[" ∷ decimal e.place ∷ codes "]" ∷ [] in
    rw p.1 (parts_break_first _ _ actor place c.in_err-put_actor.ensures)

pub returns : goal.returns
returns g c =
    let t = c.args.wiring.now in
    let e = c.args.endpoint in
    let actor : List (List ℕ) = path_text t e.slot.0 ∷ codes "#" ∷ decimal e.generation.0 ∷ codes "." ∷ [] in
    let place : List (List ℕ) = port_text t e.slot.0 e.port ∷ codes "[" ∷ decimal e.place ∷ codes "]" ∷ [] in
    parts_second _ _ _ _ actor place c.in_ok-put_actor.ensures c.put_place.ensures
