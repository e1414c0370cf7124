use Rattle.std.proofs.Common.{[], ◌∷◌, ◌++◌}
use Rattle.std.specs.List.{concat}
use Rattle.std.proofs.lemmas.Result.{err_from_is_err_and}
use Rattle.room_wiring.specs.Slots.{path_text}
use Rattle.room_outside.specs.line_text.Parts.{part_texts}
use Rattle.room_outside.proofs.line_text.OutputLemmas.{put_two, puts_second, breaks_first, breaks_second}
use Rattle.room_outside.proofs.line_text.PartLemmas.{parts_two, parts_break_first, parts_break_second}
use Rattle.room_show.proofs.lines.write_slot_line.Goals as goal

pub returns-in_err-put_all : goal.returns-in_err-put_all
returns-in_err-put_all g c =
    let p = err_from_is_err_and c.from_residual.result c.from_residual.ensures.1 in
    let head = part_texts c.args.head.now in
    let rest = path_text c.args.wiring.now c.args.slot.0 ∷ part_texts c.args.tail.now in
    let fault = rw c.clear.ensures at c.in_err-put_all.ensures in
    rw p.1 (breaks_first _ _ (concat (head ++ rest)) (10 ∷ []) (parts_break_first _ _ head rest fault))

pub returns-in_err-put_path : goal.returns-in_err-put_path
returns-in_err-put_path g c =
    let p = err_from_is_err_and c.from_residual-in_err-put_path.result c.from_residual-in_err-put_path.ensures.1 in
    let head = part_texts c.args.head.now in
    let path = path_text c.args.wiring.now c.args.slot.0 in
    let tail = part_texts c.args.tail.now in
    let put = rw c.clear.ensures at c.in_ok-put_all.ensures in
    rw p.1 (breaks_first _ _ (concat (head ++ (path ∷ tail))) (10 ∷ [])
    (parts_break_second _ _ _ head (path ∷ tail) put (breaks_first _ _ path (concat tail) c.in_err-put_path.ensures)))

pub returns-in_err-put_all-2 : goal.returns-in_err-put_all-2
returns-in_err-put_all-2 g c =
    let p = err_from_is_err_and c.from_residual-in_err-put_all-2.result c.from_residual-in_err-put_all-2.ensures.1 in
    let head = part_texts c.args.head.now in
    let path = path_text c.args.wiring.now c.args.slot.0 in
    let tail = part_texts c.args.tail.now in
    let put = rw c.clear.ensures at c.in_ok-put_all.ensures in
    rw p.1 (breaks_first _ _ (concat (head ++ (path ∷ tail))) (10 ∷ [])
    (parts_break_second _ _ _ head (path ∷ tail) put (breaks_second _ _ _ path (concat tail) c.in_ok-put_path.ensures c.in_err-put_all-2.ensures)))

pub returns : goal.returns
returns g c =
    let head = part_texts c.args.head.now in
    let path = path_text c.args.wiring.now c.args.slot.0 in
    let tail = part_texts c.args.tail.now in
    let put = rw c.clear.ensures at c.in_ok-put_all.ensures in
    puts_second _ _ _ _ (concat (head ++ (path ∷ tail))) (10 ∷ [])
    (parts_two _ _ _ head (path ∷ tail) put (put_two _ _ _ path (concat tail) c.in_ok-put_path.ensures c.in_ok-put_all-2.ensures))
    c.end_line.ensures
