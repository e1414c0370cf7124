use Rattle.std.proofs.lemmas.Result.{err_from_is_err_and}
use Rattle.journal.specs.Text.{title_of}
use Rattle.room_outside.proofs.line_text.OutputLemmas.{puts_second, breaks_first}
use Rattle.tied_journals.specs.Text.{tied_journal_text, tied_controller_text}
use Rattle.tied_journals.proofs.text.write_controller.Goals as goal

pub returns-in_err-write_title : goal.returns-in_err-write_title
unfolding tied_controller_text
returns-in_err-write_title g c =
    let p = err_from_is_err_and c.from_residual.result c.from_residual.ensures.1 in
    let title = title_of c.args.wiring.now c.args.c in
    let journal = tied_journal_text c.args.wiring.now c.args.journal.now in
    rw p.1 (breaks_first _ _ title journal c.in_err-write_title.ensures)

pub returns : goal.returns
unfolding tied_controller_text
returns g c =
    let title = title_of c.args.wiring.now c.args.c in
    let journal = tied_journal_text c.args.wiring.now c.args.journal.now in
    puts_second _ _ _ _ title journal c.in_ok-write_title.ensures (rw c.as_slice.ensures at c.write_tied_journal.ensures)
