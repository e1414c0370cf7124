use Rattle.std.proofs.Common.{[], ◌∷◌, ◌++◌}
use Rattle.std.specs.List.{concat}
use Rattle.std.proofs.lemmas.Result.{err_from_is_err_and}
use Rattle.binding_expand.specs.tree_text.Text.{slot_parts, path_and_class, slot_text}
use Rattle.room_outside.proofs.line_text.OutputLemmas.{puts_second, breaks_first}
use Rattle.room_outside.proofs.line_text.PartLemmas.{parts_two, parts_break_first, parts_break_second}
use Rattle.binding_expand.proofs.tree_text.text.write_slot.Goals as goal

pub returns-in_err-put_slot : goal.returns-in_err-put_slot
unfolding slot_text
returns-in_err-put_slot g c =
    let p = err_from_is_err_and c.from_residual.result c.from_residual.ensures.1 in
    let x = c.slot-slot.result.now in
    let head = slot_parts c.args.s.0 x in
    let end = path_and_class c.args.wiring.now x in
    let fault = rw c.clear.ensures at c.in_err-put_slot.ensures in
    rw (p.1, c.slot-slot.ensures.slot) (breaks_first _ _ (concat (head ++ end)) (10 ∷ []) (parts_break_first _ _ head end fault))

pub returns-in_err-put_path_and_class : goal.returns-in_err-put_path_and_class
unfolding slot_text
returns-in_err-put_path_and_class g c =
    let p = err_from_is_err_and c.from_residual-in_err-put_path_and_class.result c.from_residual-in_err-put_path_and_class.ensures.1 in
    let x = c.slot-slot.result.now in
    let head = slot_parts c.args.s.0 x in
    let end = path_and_class c.args.wiring.now x in
    let first = rw c.clear.ensures at c.in_ok-put_slot.ensures in
    rw (p.1, c.slot-slot.ensures.slot) (breaks_first _ _ (concat (head ++ end)) (10 ∷ []) (parts_break_second _ _ _ head end first c.in_err-put_path_and_class.ensures))

pub returns : goal.returns
unfolding slot_text
returns g c =
    let x = c.slot-slot.result.now in
    let head = slot_parts c.args.s.0 x in
    let end = path_and_class c.args.wiring.now x in
    let first = rw c.clear.ensures at c.in_ok-put_slot.ensures in
    rw c.slot-slot.ensures.slot (puts_second _ _ _ _ (concat (head ++ end)) (10 ∷ []) (parts_two _ _ _ head end first c.in_ok-put_path_and_class.ensures) c.end_line.ensures)
