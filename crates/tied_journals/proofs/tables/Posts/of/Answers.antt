use Rattle.std.proofs.Common.{List, subst}
use Rattle.journal.specs.declared.entry.Entry.{Entry}
use Rattle.tied_journals.specs.PostTables.{IsTableOf}
use Rattle.tied_journals.proofs.TableSteps.{tables_step, tables_end}
use Rattle.tied_journals.proofs.tables.Posts.of.Goals as goal

pub loop-journal-preserved : goal.loop-journal-preserved
loop-journal-preserved c =
    let within = rw c.as_slice-journal-items.ensures at c.loop-journal-test.true in
    let at = rw c.as_slice-journal-items.ensures at c.journal-item.is in
    let of = subst (λ (es : List Entry). IsTableOf c.in_ok-of.field-0 es) c.as_slice.ensures c.in_ok-of.ensures in
    rw c.in_ok-push.ensures.items (tables_step _ c.args.journals.now.controllers _ c.journal-item.result _ within at c.loop-journal.invariant of)

pub returns : goal.returns
returns c =
    let over = rw c.as_slice-journal-items.ensures at c.loop-journal-test.false in
    let of = subst (λ (es : List Entry). IsTableOf c.in_ok-of-2.field-0 es) c.as_slice-2.ensures c.in_ok-of-2.ensures in
    rw c.in_ok-push-2.ensures.items (tables_end _ c.args.journals.now.controllers _ c.args.journals.now.environment _ over c.loop-journal.invariant of)
