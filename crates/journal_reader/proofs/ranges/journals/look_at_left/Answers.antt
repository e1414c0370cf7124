use Rattle.std.proofs.Common.{arith, subst}
use Rattle.std.proofs.lemmas.List.Elements.{All-more}
use Rattle.journal_reader.specs.journal_texts.InRange.{InRangeLeft}
use Rattle.journal_reader.proofs.ranges.Looking.{all_looked_at}
use Rattle.journal_reader.proofs.ranges.journals.look_at_left.Goals as goal

pub loop-one-preserved : goal.loop-one-preserved
loop-one-preserved c =
    All-more InRangeLeft c.args.left.now c.loop-one.one-index c.one-item.result c.loop-one-test.true c.loop-one.invariant
    (subst InRangeLeft c.one-item.is (record { receiver = omega arith; message = c.look_at_message.ensures }))

pub returns : goal.returns
returns c = let past = c.loop-one-test.false in all_looked_at InRangeLeft c.args.left.now c.loop-one.one-index (omega (arith, past)) c.loop-one.invariant
