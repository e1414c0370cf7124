use Rattle.tied_journals.proofs.TableSteps.{table_step, table_end}
use Rattle.tied_journals.proofs.tables.PartyPosts.of.Goals as goal

pub loop-entry-preserved : goal.loop-entry-preserved
loop-entry-preserved c = table_step _ _ _ _ c.entry-item.result c.loop-entry-test.true c.entry-item.is c.loop-entry.invariant c.in_ok-add_entry.ensures

pub returns : goal.returns
returns c = table_end _ _ _ c.loop-entry-test.false c.loop-entry.invariant
