use Rattle.std.proofs.Common.{[], ◌∷◌, ◌++◌, codes}
use Rattle.std.proofs.lemmas.Result.{err_from_is_err_and}
use Rattle.room_outside.specs.line_text.Lines.{line}
use Rattle.room_outside.proofs.line_text.OutputLemmas.{puts_second, breaks_first, breaks_second}
use Rattle.journal.specs.Text.{journal_text}
use Rattle.tied_journals.specs.Text.{below_text, rest_text}
use Rattle.tied_journals.proofs.text.write_rest.Goals as goal

pub returns-in_err-write_line : goal.returns-in_err-write_line
unfolding rest_text
returns-in_err-write_line g c =
    let p = err_from_is_err_and c.from_residual.result c.from_residual.ensures.1 in
    let t = c.args.wiring.now in
    let j = c.args.journals.now in
    let heading = line (codes "environment" ∷ []) in
    let environment = journal_text t j.environment in
    let below = below_text t j in
    rw p.1 (breaks_first _ _ heading (environment ++ below) c.in_err-write_line.ensures)

pub returns-in_err-write_journal : goal.returns-in_err-write_journal
unfolding rest_text
returns-in_err-write_journal g c =
    let p = err_from_is_err_and c.from_residual-in_err-write_journal.result c.from_residual-in_err-write_journal.ensures.1 in
    let t = c.args.wiring.now in
    let j = c.args.journals.now in
    let heading = line (codes "environment" ∷ []) in
    let environment = journal_text t j.environment in
    let below = below_text t j in
    rw p.1 (breaks_second _ _ _ heading (environment ++ below) c.in_ok-write_line.ensures (breaks_first _ _ environment below (rw c.as_slice.ensures at c.in_err-write_journal.ensures)))

pub returns : goal.returns
unfolding rest_text
returns g c =
    let t = c.args.wiring.now in
    let j = c.args.journals.now in
    let heading = line (codes "environment" ∷ []) in
    let environment = journal_text t j.environment in
    let below = below_text t j in
    puts_second _ _ _ _ heading (environment ++ below) c.in_ok-write_line.ensures (puts_second _ _ _ _ environment below (rw c.as_slice.ensures at c.in_ok-write_journal.ensures) c.write_below.ensures)
