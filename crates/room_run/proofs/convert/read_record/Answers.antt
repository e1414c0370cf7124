use Rattle.std.proofs.Common.{◌≡◌, ℕ, List, IfSome, sym, subst}
use Rattle.room_run.specs.Causes.{no_record, journals_refused}
use Rattle.room_run.proofs.ConvertLemmas.{record_cause}
use Rattle.room_run.proofs.convert.read_record.Goals as goal

pub returns-in-Err-clause-err : goal.returns-in-Err-clause-err
returns-in-Err-clause-err g c = journals_refused (no_record c.in-Err.ensures.err)

pub returns-clause-err : goal.returns-clause-err
returns-clause-err g c =
    let before = g.S.Shelf.shown c.args.shelf.now in
    record_cause before (g.S.Shelf.shown c.read_journals_text.new.shelf) c.args.name.now c.as_slice.result.now c.args.wiring.now c.tied_journals.result
    (subst (λ (bytes : List ℕ). IfSome (before.text c.args.name.now) (λ text. bytes ≡ text)) (sym c.as_slice.ensures.value) c.in-Ok.ensures.ok) c.tied_journals.ensures.err
