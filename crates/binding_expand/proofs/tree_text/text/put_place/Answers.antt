use Rattle.std.specs.List.{concat}
use Rattle.std.proofs.lemmas.Result.{err_from_is_err_and}
use Rattle.room_wiring.specs.Slots.{path_text}
use Rattle.binding_expand.specs.tree_text.Names.{port_parts}
use Rattle.room_outside.proofs.line_text.OutputLemmas.{puts_second, breaks_first}
use Rattle.binding_expand.proofs.tree_text.text.put_place.Goals as goal

pub returns-in_err-put_path : goal.returns-in_err-put_path
returns-in_err-put_path g c =
    let p = err_from_is_err_and c.from_residual.result c.from_residual.ensures.1 in
    let t = c.args.wiring.now in
    rw p.1 (breaks_first _ _ (path_text t c.args.place.slot.0) (concat (port_parts t c.args.place)) c.in_err-put_path.ensures)

pub returns : goal.returns
returns g c =
    let t = c.args.wiring.now in
    puts_second _ _ _ _ (path_text t c.args.place.slot.0) (concat (port_parts t c.args.place)) c.in_ok-put_path.ensures c.put_port.ensures
