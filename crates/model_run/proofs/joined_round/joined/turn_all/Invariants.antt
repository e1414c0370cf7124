use Rattle.std.proofs.Common.{◌≡◌, length, slice_get}
use Rattle.model_run.specs.run_rounds.OneByOne.{StepsBelow}
use Rattle.model_run.specs.joined_round.Joined.{TurnedAt}
use Rattle.model_run.proofs.joined_round.joined.turn_all.Given as goal

abbrev pub invariant-loop-i : goal.invariant-loop-i
invariant-loop-i l = record {
  steps : StepsBelow (TurnedAt l.plant) l.i (slice_get l.fn.controllers.items) (slice_get l.controllers.items);
  count : length l.controllers.items ≡ length l.fn.controllers.items;
  end : l.i-end ≡ length l.fn.controllers.items;
}
