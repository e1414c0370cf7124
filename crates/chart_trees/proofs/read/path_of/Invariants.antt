use Rattle.std.proofs.Common.{◌≡◌, ◌∷◌, take}
use Rattle.chart_trees.proofs.read.path_of.Given as goal

abbrev pub invariant-loop-outer : goal.invariant-loop-outer
invariant-loop-outer l = l.path ≡ l.name ∷ take l.outer-index l.owner
