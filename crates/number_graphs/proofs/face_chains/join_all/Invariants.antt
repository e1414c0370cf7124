use Rattle.std.proofs.Common.{◌≡◌, ◌≤◌, length, drop}
use Rattle.number_graphs.specs.face_chains.Chains.{far_ends}
use Rattle.number_graphs.proofs.face_chains.join_all.Given as goal

abbrev pub invariant-loop-left : goal.invariant-loop-left
invariant-loop-left l = record { within : l.left ≤ length l.pairs; ends : l.far ≡ far_ends l.initial.far (drop l.left l.pairs) }

abbrev pub decreases-loop-left : goal.decreases-loop-left
decreases-loop-left l = l.left
