use Rattle.std.proofs.Common.{◌∙◌}
use Rattle.tied_journals.proofs.TableSteps.{told_of_party, told_of_none}
use Rattle.tied_journals.proofs.tables.Posts.only.Goals as goal

pub returns-in-Some : goal.returns-in-Some
returns-in-Some c = λ j are.
    let found = c.in-Some.ensures.lookup in
    let within = rw (c.from.ensures, c.deref.ensures.value) at found.3.0 in
    let is = rw (c.from.ensures, c.deref.ensures.value) at found.3.1 c.in-Some.table.now in
    c.only.ensures ∙ told_of_party _ j _ _ _ are within is

pub returns-in-None : goal.returns-in-None
returns-in-None c = λ j are.
    let over = rw (c.from.ensures, c.deref.ensures.value) at c.in-None.ensures.lookup.3 in
    told_of_none _ j _ _ are over
