use Rattle.std.proofs.Common.{sym, ◌∙◌}
use Rattle.mail_core.proofs.Tied.{StaysTied-step}
use Rattle.model_run.proofs.run_worker.WorkLaw.{works_then, posts_did, posts_turns}
use Rattle.model_run.proofs.run_worker.step.Goals as goal

pub returns-in_err-post_all-clause-tied : goal.returns-in_err-post_all-clause-tied
returns-in_err-post_all-clause-tied g c = StaysTied-step c.poll_and_turn.ensures.tied c.post_all.ensures.tied (sym c.in_ok-turned.ensures.ok.end.party)

pub returns-clause-ok : goal.returns-clause-ok
returns-clause-ok g c =
    works_then c.args.plant.now c.args.controller.now c.poll_and_turn.new.controller c.post_all.new.self _ _ _ c.in_ok-turned.ensures.ok
    (posts_did c.args.plant.now c.poll_and_turn.new.controller c.post_all.new.self _ _ c.in_ok-post_all.ensures.ok)

pub returns-clause-tied : goal.returns-clause-tied
returns-clause-tied g c = StaysTied-step c.poll_and_turn.ensures.tied c.post_all.ensures.tied (sym c.in_ok-turned.ensures.ok.end.party)

pub returns-clause-counted : goal.returns-clause-counted
returns-clause-counted g c = posts_turns c.args.plant.now c.poll_and_turn.new.controller c.post_all.new.self _ _ c.in_ok-post_all.ensures.ok ∙ c.in_ok-turned.ensures.counted
