use Rattle.journal_reader.specs.journal_texts.Filled.{filled_entry}
use Rattle.journal_reader.proofs.FillSteps.{mapped_step, mapped_all}
use Rattle.journal_reader.proofs.fill.filled_entries.Goals as goal

pub loop-entry-preserved : goal.loop-entry-preserved
loop-entry-preserved c = λ j are.
    mapped_step (filled_entry j) _ _ c.entry-item.result _ _ _ c.loop-entry-test.true c.entry-item.is (c.loop-entry.invariant j are) (c.in_ok-filled_entry.ensures j are) c.in_ok-push.ensures.ok

pub returns : goal.returns
returns c = λ j are. mapped_all (filled_entry j) _ _ _ c.loop-entry-test.false (c.loop-entry.invariant j are)
