use Rattle.std.proofs.Common.{◌≡◌, ◌<◌, ℕ, false}
use Rattle.number_graphs.specs.class_containment.Walks.{Rests, at, is_untouched}
use Rattle.number_graphs.proofs.class_containment.containment_order.Given as goal

abbrev pub invariant-loop-class : goal.invariant-loop-class
invariant-loop-class l = Rests l.classes l.walk × ((j : ℕ) → j < l.class → is_untouched (at l.walk.progress.items j) ≡ false)
