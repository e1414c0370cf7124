use Rattle.std.proofs.Common.{[], ◌∷◌, ◌++◌, codes}
use Rattle.std.proofs.lemmas.Result.{err_from_is_err_and}
use Rattle.room_outside.specs.line_text.Lines.{line}
use Rattle.room_outside.proofs.line_text.OutputLemmas.{puts_second, breaks_first, breaks_second}
use Rattle.room_show.specs.Lines.{at_line}
use Rattle.room_show.specs.Text.{controllers_text, snapshot_text}
use Rattle.room_show.proofs.text.write_snapshot.Goals as goal

pub returns-in_err-write_at : goal.returns-in_err-write_at
unfolding snapshot_text
returns-in_err-write_at g c =
    let p = err_from_is_err_and c.from_residual.result c.from_residual.ensures.1 in
    let s = c.args.snapshot.now in
    let controllers = controllers_text c.args.wiring.now 0 s.controllers in
    let end = line (codes "end" ∷ []) in
    rw p.1 (breaks_first _ _ (at_line s.at) (controllers ++ end) c.in_err-write_at.ensures)

pub returns-in_err-write_controllers : goal.returns-in_err-write_controllers
unfolding snapshot_text
returns-in_err-write_controllers g c =
    let p = err_from_is_err_and c.from_residual-in_err-write_controllers.result c.from_residual-in_err-write_controllers.ensures.1 in
    let s = c.args.snapshot.now in
    let controllers = controllers_text c.args.wiring.now 0 s.controllers in
    let end = line (codes "end" ∷ []) in
    rw p.1 (breaks_second _ _ _ (at_line s.at) (controllers ++ end) c.in_ok-write_at.ensures
    (breaks_first _ _ controllers end (rw c.as_slice.ensures at c.in_err-write_controllers.ensures)))

pub returns : goal.returns
unfolding snapshot_text
returns g c =
    let s = c.args.snapshot.now in
    let controllers = controllers_text c.args.wiring.now 0 s.controllers in
    let end = line (codes "end" ∷ []) in
    puts_second _ _ _ _ (at_line s.at) (controllers ++ end) c.in_ok-write_at.ensures
    (puts_second _ _ _ _ controllers end (rw c.as_slice.ensures at c.in_ok-write_controllers.ensures) c.write_line.ensures)
