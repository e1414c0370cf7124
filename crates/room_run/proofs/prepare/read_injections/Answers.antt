use Rattle.std.proofs.Common.{◌≡◌, ℕ, List, IfSome, refl, sym, subst}
use Rattle.room_run.specs.Causes.{injections_unread, injections_long, injections_no_memory}
use Rattle.room_run.proofs.CauseLemmas.{lines_cause}
use Rattle.room_run.proofs.prepare.read_injections.Goals as goal

pub returns-in-Err-ReadFault-clause-err : goal.returns-in-Err-ReadFault-clause-err
returns-in-Err-ReadFault-clause-err g c = injections_unread (c.in-Err-ReadFault.ensures.fault (cc)) refl

pub returns-in-Err-TooLong-clause-err : goal.returns-in-Err-TooLong-clause-err
returns-in-Err-TooLong-clause-err g c = injections_long (c.in-Err-TooLong.ensures.too_long (cc)) refl

pub returns-in-Err-Memory-clause-err : goal.returns-in-Err-Memory-clause-err
returns-in-Err-Memory-clause-err g c = injections_no_memory refl

pub returns-clause-err : goal.returns-clause-err
returns-clause-err g c =
    let before = g.S.Shelf.shown c.args.shelf.now in
    lines_cause before (g.S.Shelf.shown c.read_whole.new.shelf) c.args.name.now c.as_slice.result.now c.args.advances c.args.wiring.now c.judge_lines.result
    (subst (λ (bytes : List ℕ). IfSome (before.text c.args.name.now) (λ text. bytes ≡ text)) (sym c.as_slice.ensures.value) c.in-Ok.ensures.whole) c.judge_lines.ensures.err
