use Rattle.std.proofs.Common.{◌∙◌, ℕ, Option, subst}
use Rattle.tied_journals.specs.Tied.{IsTiedEntry}
use Rattle.tied_journals.proofs.UntiedSteps.{tied_step, fetched_step, found_step, all_tied}
use Rattle.tied_journals.proofs.untied.first_untied_in.Goals as goal

pub returns-in-Some : goal.returns-in-Some
returns-in-Some c = λ j are.
    found_step j _ _ _ _ _ c.loop-entry-test.true c.entry-item.is (c.loop-entry.invariant.1 j are) c.loop-entry.invariant.0 (c.in-Some.ensures j are)

pub loop-entry-preserved : goal.loop-entry-preserved
loop-entry-preserved c = (
  c.fetched_at-before.ensures ∙ fetched_step _ _ _ c.loop-entry-test.true c.entry-item.is,
  λ j are.
      let is = subst (λ (before : Option ℕ). IsTiedEntry j before c.entry-item.result) c.loop-entry.invariant.0 (c.in_default.ensures j are) in
      tied_step j _ _ _ c.loop-entry-test.true c.entry-item.is (c.loop-entry.invariant.1 j are) is,
)

pub returns : goal.returns
returns c = λ j are. all_tied j _ _ c.loop-entry-test.false (c.loop-entry.invariant.1 j are)
