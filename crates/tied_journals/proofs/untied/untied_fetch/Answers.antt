use Rattle.std.proofs.Common.{refl}
use Rattle.tied_journals.specs.Tied.{IsTiedFetch}
use Rattle.tied_journals.proofs.untied.untied_fetch.Goals as goal

pub returns-then-is_posted : goal.returns-then-is_posted
returns-then-is_posted c = λ j are.
    let is : IsTiedFetch j c.args.before c.in-Fetch.stamp.0 c.in-Fetch.msg = record {
      posted = (c.if-is_posted.ensures j are).0 refl;
      follows = c.if-follows.ensures.0 refl;
    } in
    rw c.in-Fetch.is is
