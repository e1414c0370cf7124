use Rattle.std.proofs.Common.{◌≡◌, map, length}
use Rattle.model_run.specs.run_rounds.OneByOne.{StepsBelow}
use Rattle.model_run.specs.joined_round.Joined.{WorkedAt, seat}
use Rattle.model_run.proofs.joined_round.workers.work_in_order.Given as goal

abbrev pub invariant-loop-number : goal.invariant-loop-number
invariant-loop-number g l = record {
  steps : StepsBelow (WorkedAt l.plant) l.number (seat l.fn.controllers.items (map g.M.Mail.log l.fn.ends.items)) (seat l.controllers.items (map g.M.Mail.log l.ends.items));
  count : length l.controllers.items ≡ length l.fn.controllers.items;
  ends : length l.ends.items ≡ length l.fn.ends.items;
  tied : g.M.Mail.tied l.office l.ends.items;
  end : l.number-end ≡ length l.fn.controllers.items;
}
