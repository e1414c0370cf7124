use Rattle.std.proofs.Common.{◌≡◌, Option, Some, IfSome, subst}
use Rattle.room_kinds.specs.declared.numbers.ControllerId.{ControllerId}
use Rattle.room_kinds.specs.declared.numbers.Stamp.{Stamp}
use Rattle.tied_journals.specs.Untied.{IsFirstUntied}
use Rattle.room_run.specs.Causes.{unread_journals, untied, no_memory_to_tie}
use Rattle.room_run.proofs.convert.tied_journals.Goals as goal

pub returns-in-Err-clause-err : goal.returns-in-Err-clause-err
returns-in-Err-clause-err c = unread_journals c.in-Err.ensures.err

pub returns-in-Ok-None-clause-ok : goal.returns-in-Ok-None-clause-ok
returns-in-Ok-None-clause-ok c = record { has = c.in-Ok.ensures.ok; tied = c.in-Ok-None.ensures.tied.0 (cc) }

pub returns-in-Ok-Some-clause-err : goal.returns-in-Ok-Some-clause-err
returns-in-Ok-Some-clause-err c =
    let is : c.in-Ok-Some.field-0 ≡ Some (c.in-Ok-Some.controller, c.in-Ok-Some.stamp) = cc in
    untied c.in-Ok-Some.controller c.in-Ok-Some.stamp (record {
      journals = c.in-Ok.journals;
      has = c.in-Ok.ensures.ok;
      first = subst (λ (o : Option (ControllerId × Stamp)). IfSome o (λ x. IsFirstUntied c.in-Ok.journals x.0 x.1)) is c.in-Ok-Some.ensures.first;
    })

pub returns-in-Err-first_untied-clause-err : goal.returns-in-Err-first_untied-clause-err
returns-in-Err-first_untied-clause-err c = no_memory_to_tie
