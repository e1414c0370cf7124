use Rattle.std.proofs.Common.{[], ◌∷◌, ◌++◌, codes}
use Rattle.std.proofs.lemmas.Result.{err_from_is_err_and}
use Rattle.room_outside.specs.line_text.Lines.{line}
use Rattle.room_outside.proofs.line_text.OutputLemmas.{puts_second, breaks_first, breaks_second}
use Rattle.tied_journals.specs.Text.{tied_controllers_text, rest_text, tied_text_of}
use Rattle.tied_journals.proofs.text.write_text.Goals as goal

pub returns-in_err-write_line : goal.returns-in_err-write_line
unfolding tied_text_of
returns-in_err-write_line g c =
    let p = err_from_is_err_and c.from_residual.result c.from_residual.ensures.1 in
    let t = c.args.wiring.now in
    let j = c.args.journals.now in
    let title = line (codes "room-journal 2" ∷ []) in
    let controllers = tied_controllers_text t 0 j.controllers in
    let rest = rest_text t j in
    rw p.1 (breaks_first _ _ title (controllers ++ rest) c.in_err-write_line.ensures)

pub returns-in_err-write_controllers : goal.returns-in_err-write_controllers
unfolding tied_text_of
returns-in_err-write_controllers g c =
    let p = err_from_is_err_and c.from_residual-in_err-write_controllers.result c.from_residual-in_err-write_controllers.ensures.1 in
    let t = c.args.wiring.now in
    let j = c.args.journals.now in
    let title = line (codes "room-journal 2" ∷ []) in
    let controllers = tied_controllers_text t 0 j.controllers in
    let rest = rest_text t j in
    rw p.1 (breaks_second _ _ _ title (controllers ++ rest) c.in_ok-write_line.ensures (breaks_first _ _ controllers rest (rw c.as_slice.ensures at c.in_err-write_controllers.ensures)))

pub returns : goal.returns
unfolding tied_text_of
returns g c =
    let t = c.args.wiring.now in
    let j = c.args.journals.now in
    let title = line (codes "room-journal 2" ∷ []) in
    let controllers = tied_controllers_text t 0 j.controllers in
    let rest = rest_text t j in
    puts_second _ _ _ _ title (controllers ++ rest) c.in_ok-write_line.ensures (puts_second _ _ _ _ controllers rest (rw c.as_slice.ensures at c.in_ok-write_controllers.ensures) c.write_rest.ensures)
