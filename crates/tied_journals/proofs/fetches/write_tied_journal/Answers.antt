use Rattle.std.proofs.lemmas.Result.{err_from_is_err_and}
use Rattle.room_outside.proofs.line_text.Going.{going_begin, going_on, going_breaks}
use Rattle.tied_journals.specs.Text.{tied_journal_text}
use Rattle.tied_journals.proofs.TiedGoing.{going_entry, going_entries_end, going_puts}
use Rattle.tied_journals.proofs.fetches.write_tied_journal.Goals as goal

pub loop-entry-init : goal.loop-entry-init
unfolding tied_journal_text
loop-entry-init g c = going_begin _ _

pub loop-entry-preserved : goal.loop-entry-preserved
loop-entry-preserved g c =
    rw c.is_fetch-begun.ensures
    (going_on _ _ _ _ _ _ (going_entry _ _ _ _ _ _ _ c.entry-item.result c.loop-entry-test.true c.entry-item.is c.loop-entry.invariant) c.in_ok-write_tied_entry.ensures)

pub returns-in_err-write_tied_entry : goal.returns-in_err-write_tied_entry
returns-in_err-write_tied_entry g c =
    let p = err_from_is_err_and c.from_residual.result c.from_residual.ensures.1 in
    rw p.1 (going_breaks _ _ _ _ _ _ (going_entry _ _ _ _ _ _ _ c.entry-item.result c.loop-entry-test.true c.entry-item.is c.loop-entry.invariant) c.in_err-write_tied_entry.ensures)

pub returns : goal.returns
returns g c = going_puts _ _ _ _ _ _ (going_entries_end _ _ _ _ _ _ _ c.loop-entry-test.false c.loop-entry.invariant) c.end_fetches.ensures
