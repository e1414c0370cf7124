use Rattle.std.proofs.Common.{◌+◌, ◌-◌, ◌*◌}
use Rattle.mail_core.specs.Tied.{StaysTied}
use Rattle.controller.specs.Controllers.{IsOf}
use Rattle.model_run.specs.run_worker.Works.{Works}
use Rattle.model_run.proofs.run_worker.work.Given as goal

abbrev pub invariant-loop-pauses : goal.invariant-loop-pauses
invariant-loop-pauses g l = record {
  works : Works l.plant l.fn.controller l.controller (g.M.Mail.log l.fn.end) (g.M.Mail.log l.end);
  of : IsOf l.plant l.controller;
  tied : StaysTied g.M.Mail.tied (g.M.Mail.log l.fn.end).party l.fn.office l.office l.fn.end l.end;
}

-- a turn is worth more than 64 steps without one
abbrev pub decreases-loop-pauses : goal.decreases-loop-pauses
decreases-loop-pauses g l = (l.fn.controller.fuel - l.controller.mail.turns) * 65 + (64 - l.idle)
