use Rattle.std.proofs.Common.{◌++◌}
use Rattle.std.proofs.lemmas.Result.{err_from_is_err_and}
use Rattle.room_outside.proofs.line_text.OutputLemmas.{puts_second, breaks_first, breaks_second}
use Rattle.journal.specs.Text.{left_text, unposted_text, end_line}
use Rattle.tied_journals.specs.Text.{below_text}
use Rattle.tied_journals.proofs.text.write_below.Goals as goal

pub returns-in_err-write_left : goal.returns-in_err-write_left
unfolding below_text
returns-in_err-write_left g c =
    let p = err_from_is_err_and c.from_residual.result c.from_residual.ensures.1 in
    let t = c.args.wiring.now in
    let j = c.args.journals.now in
    let left = left_text t j.left in
    let unposted = unposted_text j.unposted in
    let end = end_line j.done in
    rw p.1 (breaks_first _ _ left (unposted ++ end) (rw c.as_slice.ensures at c.in_err-write_left.ensures))

pub returns-in_err-write_unposted : goal.returns-in_err-write_unposted
unfolding below_text
returns-in_err-write_unposted g c =
    let p = err_from_is_err_and c.from_residual-in_err-write_unposted.result c.from_residual-in_err-write_unposted.ensures.1 in
    let t = c.args.wiring.now in
    let j = c.args.journals.now in
    let left = left_text t j.left in
    let unposted = unposted_text j.unposted in
    let end = end_line j.done in
    rw p.1 (breaks_second _ _ _ left (unposted ++ end) (rw c.as_slice.ensures at c.in_ok-write_left.ensures) (breaks_first _ _ unposted end (rw c.as_slice-2.ensures at c.in_err-write_unposted.ensures)))

pub returns : goal.returns
unfolding below_text
returns g c =
    let t = c.args.wiring.now in
    let j = c.args.journals.now in
    let left = left_text t j.left in
    let unposted = unposted_text j.unposted in
    let end = end_line j.done in
    puts_second _ _ _ _ left (unposted ++ end) (rw c.as_slice.ensures at c.in_ok-write_left.ensures) (puts_second _ _ _ _ unposted end (rw c.as_slice-2.ensures at c.in_ok-write_unposted.ensures) c.write_end.ensures)
