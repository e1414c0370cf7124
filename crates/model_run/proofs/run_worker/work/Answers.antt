use Rattle.std.proofs.Common.{sym, ap, ◌∙◌}
use Rattle.room_kinds.specs.declared.numbers.ControllerId.{ControllerId}
use Rattle.mail_core.proofs.Tied.{IsTied-step, StaysTied-step}
use Rattle.model_run.proofs.run_worker.WorkLaw.{works_then, posts_did}
use Rattle.model_run.proofs.run_worker.work.Goals as goal

pub loop-pauses-init : goal.loop-pauses-init
loop-pauses-init g c = record {
  works = posts_did c.args.plant.now c.args.controller.now c.post_all.new.self _ _ c.in_ok-post_all.ensures.ok;
  of = c.post_all.ensures.of;
  tied = c.post_all.ensures.tied;
}

pub step-requires-clause-of : goal.step-requires-clause-of
step-requires-clause-of g c = c.loop-pauses.invariant.of

pub step-requires-clause-party : goal.step-requires-clause-party
step-requires-clause-party g c =
    c.loop-pauses.invariant.works.did.end.party ∙ c.requires.party ∙ ap (λ (i : ControllerId). i.0) (sym c.loop-pauses.invariant.works.did.goes.me)

pub step-requires-clause-parties : goal.step-requires-clause-parties
step-requires-clause-parties g c = c.loop-pauses.invariant.works.did.end.parties ∙ c.requires.parties

pub step-requires-clause-tied : goal.step-requires-clause-tied
step-requires-clause-tied g c = IsTied-step c.requires.tied c.loop-pauses.invariant.tied (sym c.loop-pauses.invariant.works.did.end.party)

pub step-requires-clause-posted : goal.step-requires-clause-posted
step-requires-clause-posted g c = c.loop-pauses.invariant.works.posted

pub returns-in_err-turned-clause-tied : goal.returns-in_err-turned-clause-tied
returns-in_err-turned-clause-tied g c = StaysTied-step c.loop-pauses.invariant.tied c.step.ensures.tied (sym c.loop-pauses.invariant.works.did.end.party)

pub loop-pauses-preserved-then-turned : goal.loop-pauses-preserved-then-turned
loop-pauses-preserved-then-turned g c = record {
  works = works_then c.args.plant.now c.args.controller.now c.loop-pauses.controller c.step.new.controller _ _ _ c.loop-pauses.invariant.works.did c.in_ok-turned.ensures.ok;
  of = c.step.ensures.of;
  tied = StaysTied-step c.loop-pauses.invariant.tied c.step.ensures.tied (sym c.loop-pauses.invariant.works.did.end.party);
}

pub loop-pauses-preserved : goal.loop-pauses-preserved
loop-pauses-preserved g c = record {
  works = works_then c.args.plant.now c.args.controller.now c.loop-pauses.controller c.step.new.controller _ _ _ c.loop-pauses.invariant.works.did c.in_ok-turned.ensures.ok;
  of = c.step.ensures.of;
  tied = StaysTied-step c.loop-pauses.invariant.tied c.step.ensures.tied (sym c.loop-pauses.invariant.works.did.end.party);
}

pub returns-after-loop-pauses-clause-ok : goal.returns-after-loop-pauses-clause-ok
returns-after-loop-pauses-clause-ok g c = c.loop-pauses.invariant.works

pub returns-after-loop-pauses-clause-of : goal.returns-after-loop-pauses-clause-of
returns-after-loop-pauses-clause-of g c = c.loop-pauses.invariant.of

pub returns-after-loop-pauses-clause-tied : goal.returns-after-loop-pauses-clause-tied
returns-after-loop-pauses-clause-tied g c = c.loop-pauses.invariant.tied

pub returns-else-idle-most-clause-ok : goal.returns-else-idle-most-clause-ok
returns-else-idle-most-clause-ok g c = c.loop-pauses.invariant.works

pub returns-else-idle-most-clause-of : goal.returns-else-idle-most-clause-of
returns-else-idle-most-clause-of g c = c.loop-pauses.invariant.of

pub returns-else-idle-most-clause-tied : goal.returns-else-idle-most-clause-tied
returns-else-idle-most-clause-tied g c = c.loop-pauses.invariant.tied
