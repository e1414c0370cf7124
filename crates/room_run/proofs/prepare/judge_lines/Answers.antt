use Rattle.std.proofs.Common.{sym, subst}
use Rattle.room_run.specs.Causes.{LinesCauses}
use Rattle.room_run.proofs.CauseLemmas.{line_told}
use Rattle.inject_reader.proofs.EndPlaces.{read_fit}
use Rattle.room_run.proofs.prepare.judge_lines.Goals as goal

pub returns-in-Err-clause-err : goal.returns-in-Err-clause-err
returns-in-Err-clause-err c =
    subst (LinesCauses c.args.advances c.args.wiring.now c.args.text.now) (sym c.refusal_of_lines.ensures) (line_told c.args.advances c.args.wiring.now c.args.text.now c.in-Err.fault c.requires.short c.in-Err.ensures.exact)

pub returns-in-Ok-clause-fit : goal.returns-in-Ok-clause-fit
returns-in-Ok-clause-fit c = read_fit c.args.wiring.now c.in-Ok.lines.items c.in-Ok.ensures.fit
