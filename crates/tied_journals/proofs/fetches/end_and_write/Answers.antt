use Rattle.std.proofs.lemmas.Result.{err_from_is_err_and}
use Rattle.journal.specs.Lines.{entry_text}
use Rattle.room_outside.proofs.line_text.OutputLemmas.{puts_second, breaks_first}
use Rattle.tied_journals.specs.Text.{fetches_end}
use Rattle.tied_journals.proofs.fetches.end_and_write.Goals as goal

pub returns-in_err-end_fetches : goal.returns-in_err-end_fetches
returns-in_err-end_fetches g c =
    let p = err_from_is_err_and c.from_residual.result c.from_residual.ensures.1 in
    let end = fetches_end c.args.begun in
    let text = entry_text c.args.wiring.now c.args.entry.now in
    rw p.1 (breaks_first _ _ end text c.in_err-end_fetches.ensures)

pub returns : goal.returns
returns g c =
    let end = fetches_end c.args.begun in
    let text = entry_text c.args.wiring.now c.args.entry.now in
    puts_second _ _ _ _ end text c.in_ok-end_fetches.ensures c.write_entry.ensures
