use Rattle.std.proofs.Common.{ap, ◌∙◌}
use Rattle.journal_reader.specs.journal_texts.Filled.{filled_entries}
use Rattle.journal_reader.proofs.FillSteps.{mapped_step, mapped_all}
use Rattle.journal_reader.proofs.fill.filled_controllers.Goals as goal

pub loop-journal-preserved : goal.loop-journal-preserved
loop-journal-preserved c = λ j are.
    let filled = c.in_ok-filled_entries.ensures j are ∙ ap (filled_entries j) c.as_slice.ensures in
    mapped_step (filled_entries j) _ _ c.journal-item.result _ _ _ c.loop-journal-test.true c.journal-item.is (c.loop-journal.invariant j are) filled c.in_ok-push.ensures.ok

pub returns : goal.returns
returns c = λ j are. mapped_all (filled_entries j) _ _ _ c.loop-journal-test.false (c.loop-journal.invariant j are)
