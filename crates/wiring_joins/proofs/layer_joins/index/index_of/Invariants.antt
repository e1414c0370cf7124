use Rattle.std.proofs.Common.{◌≡◌, ℕ, ◌<◌, ◌≤◌, ◌^◌, length, drop}
use Rattle.wiring_joins.specs.layer_joins.Index.{layer_at, layer_key, first_fitting}
use Rattle.wiring_joins.proofs.layer_joins.index.index_of.Given as goal

abbrev pub invariant-loop-left : goal.invariant-loop-left
invariant-loop-left l = record {
  within : l.left ≤ length l.layers;
  known : (r p : ℕ) → r < 2 ^ 16 → p < 2 ^ 16 → layer_at l.index (layer_key r p) ≡ first_fitting l.plan l.class r p (drop l.left l.layers);
}

abbrev pub decreases-loop-left : goal.decreases-loop-left
decreases-loop-left l = l.left
