use Rattle.std.proofs.Common.{rules, ℤ, get_or, arith, subst, pos, w64, SFits}
use Rattle.std.proofs.lemmas.Int.{to_z-of_z}
use Rattle.std.proofs.lemmas.List.Elements.{All-more}
use Rattle.journal_reader.specs.journal_texts.InRange.{IsSigned64}
use Rattle.journal_reader.proofs.ranges.Looking.{all_looked_at}
use Rattle.journal_reader.proofs.ranges.messages.look_at_numbers.Goals as goal

pub loop-number-preserved : goal.loop-number-preserved
loop-number-preserved c =
    let item : ℤ = get_or c.args.numbers.now c.loop-number.number-index (pos 0) in
    let fits : SFits w64 item = search rules in
    All-more IsSigned64 c.args.numbers.now c.loop-number.number-index (pos 0) c.loop-number-test.true c.loop-number.invariant
    (subst IsSigned64 (to_z-of_z w64 item fits) c.look_at_number.ensures)

pub returns : goal.returns
returns c =
    let past = c.loop-number-test.false in
    all_looked_at IsSigned64 c.args.numbers.now c.loop-number.number-index (omega (arith, past)) c.loop-number.invariant
