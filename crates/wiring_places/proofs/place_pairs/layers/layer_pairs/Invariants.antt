use Rattle.std.proofs.Common.{◌≡◌, ℕ, ◌^◌, [], ◌++◌, take, drop}
use Rattle.number_graphs.specs.face_chains.Chains.{AreBelow}
use Rattle.wiring_places.specs.binding_stretches.Taken.{taken_in}
use Rattle.wiring_places.specs.place_rules.Counts.{served_at}
use Rattle.wiring_places.specs.place_rules.Pairs.{layer_pairs}
use Rattle.wiring_places.proofs.place_pairs.layers.layer_pairs.Given as goal

abbrev pub invariant-loop-join : goal.invariant-loop-join
invariant-loop-join l = record {
  pairs : l.pairs.items ++ layer_pairs l.first_ports l.spans (take l.join-index l.joins) (drop l.join-index l.joins) ≡ layer_pairs l.first_ports l.spans [] l.joins;
  below : AreBelow (2 ^ 32) (layer_pairs l.first_ports l.spans (take l.join-index l.joins) (drop l.join-index l.joins));
  before : (key : ℕ) → taken_in l.before key ≡ served_at (take l.join-index l.joins) key;
}
