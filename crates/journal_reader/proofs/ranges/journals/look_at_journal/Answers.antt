use Rattle.std.proofs.Common.{arith, subst}
use Rattle.std.proofs.lemmas.List.Elements.{All-more}
use Rattle.journal_reader.specs.journal_texts.InRange.{InRangeEntry}
use Rattle.journal_reader.proofs.ranges.Looking.{all_looked_at}
use Rattle.journal_reader.proofs.ranges.journals.look_at_journal.Goals as goal

pub loop-entry-preserved : goal.loop-entry-preserved
loop-entry-preserved c = All-more InRangeEntry c.args.entries.now c.loop-entry.entry-index c.entry-item.result c.loop-entry-test.true c.loop-entry.invariant (subst InRangeEntry c.entry-item.is c.look_at_entry.ensures)

pub returns : goal.returns
returns c = let past = c.loop-entry-test.false in all_looked_at InRangeEntry c.args.entries.now c.loop-entry.entry-index (omega (arith, past)) c.loop-entry.invariant
