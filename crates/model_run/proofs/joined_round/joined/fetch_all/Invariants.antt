use Rattle.std.proofs.Common.{◌≡◌, ℕ, ◌≤◌, map, length, slice_get}
use Rattle.model_run.specs.run_rounds.OneByOne.{StepsBelow}
use Rattle.model_run.specs.joined_round.Joined.{FetchedAt}
use Rattle.model_run.proofs.joined_round.joined.fetch_all.Given as goal

abbrev pub invariant-loop-i : goal.invariant-loop-i
invariant-loop-i l = record {
  steps : StepsBelow (FetchedAt l.plant (map (λ v. v.items) l.fn.left.items)) l.i (slice_get l.fn.controllers.items) (slice_get l.controllers.items);
  count : length l.controllers.items ≡ length l.fn.controllers.items;
  lists : length l.left.items ≡ length l.fn.left.items;
  rest : (c : ℕ) → l.i ≤ c → slice_get l.left.items c ≡ slice_get l.fn.left.items c;
  end : l.i-end ≡ length l.fn.controllers.items;
}
