use Rattle.model_run.proofs.run_worker.WorkLaw.{each_ok, each_if_ok, polls_did, step_did, turn_counted}
use Rattle.model_run.proofs.run_worker.poll_and_turn.Goals as goal

pub returns-then-not-has_pending-clause-ok : goal.returns-then-not-has_pending-clause-ok
returns-then-not-has_pending-clause-ok g c =
    polls_did c.args.plant.now g.M.Mail.in_box _ c.args.controller.now c.poll.new.self _ _ _
    c.requires.parties c.in_ok-poll.ensures.ok

pub returns-then-not-has_pending-clause-counted : goal.returns-then-not-has_pending-clause-counted
returns-then-not-has_pending-clause-counted g c = c.in_ok-poll.ensures.ok.turns

pub returns-clause-ok : goal.returns-clause-ok
returns-clause-ok g c =
    each_ok c.turn.result
    (λ took turn. step_did c.args.plant.now g.M.Mail.in_box _ c.args.controller.now c.poll.new.self c.turn.new.self _ _ _ took
    c.requires.parties c.requires.fuel c.in_ok-poll.ensures.ok turn)
    c.turn.ensures.ok

pub returns-clause-counted : goal.returns-clause-counted
returns-clause-counted g c =
    each_if_ok c.turn.result (λ took turn. turn_counted c.args.plant.now c.args.controller.now c.poll.new.self c.turn.new.self took c.in_ok-poll.ensures.ok.turns turn) c.turn.ensures.ok
