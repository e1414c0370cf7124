use Rattle.std.proofs.Common.{All, arith, subst}
use Rattle.std.proofs.lemmas.List.Elements.{All-more}
use Rattle.std.specs.Prelude.{List}
use Rattle.journal.specs.declared.entry.Entry.{Entry}
use Rattle.journal_reader.specs.journal_texts.InRange.{InRangeEntry}
use Rattle.journal_reader.proofs.ranges.Looking.{all_looked_at}
use Rattle.journal_reader.proofs.ranges.journals.look_at_controllers.Goals as goal

pub loop-journal-preserved : goal.loop-journal-preserved
loop-journal-preserved c =
    All-more (λ (es : List Entry). All InRangeEntry es) c.args.journals.now c.loop-journal.journal-index c.journal-item.result c.loop-journal-test.true c.loop-journal.invariant
    (subst (λ (es : List Entry). All InRangeEntry es) c.journal-item.is (subst (λ (es : List Entry). All InRangeEntry es) c.as_slice.ensures c.look_at_journal.ensures))

pub returns : goal.returns
returns c = let past = c.loop-journal-test.false in all_looked_at (λ (es : List Entry). All InRangeEntry es) c.args.journals.now c.loop-journal.journal-index (omega (arith, past)) c.loop-journal.invariant
