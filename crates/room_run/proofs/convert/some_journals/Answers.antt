use Rattle.std.proofs.Common.{sym, subst}
use Rattle.room_run.specs.Causes.{ReadingCauses}
use Rattle.room_run.proofs.ConvertLemmas.{none_read}
use Rattle.room_run.proofs.convert.some_journals.Goals as goal

pub returns-in-Err-clause-err : goal.returns-in-Err-clause-err
returns-in-Err-clause-err c =
    subst (ReadingCauses c.args.wiring.now c.args.text.now) (sym c.refusal_of_journals.ensures)
    (none_read c.args.wiring.now c.args.text.now c.in-Err.fault c.requires.short (λ j fit range is. c.in-Err.ensures.only c.requires.named j fit range is))

pub returns-in-Ok-clause-ok : goal.returns-in-Ok-clause-ok
returns-in-Ok-clause-ok c =
    record { short = c.requires.short; fit = c.in-Ok.ensures.fits; in_range = c.in-Ok.ensures.in_range; is = c.in-Ok.ensures.text }
