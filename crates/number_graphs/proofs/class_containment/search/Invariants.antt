use Rattle.std.proofs.Common.{ℕ, List, reverse}
use Rattle.number_graphs.specs.class_containment.Walks.{Walking, KeepsReached, work_left}
use Rattle.number_graphs.proofs.class_containment.search.Given as goal

abbrev pub invariant-loop-top : goal.invariant-loop-top
invariant-loop-top l =
    (classes : List (List ℕ)) → Walking classes l.initial.walk.progress.items (reverse l.initial.walk.path.items) l.initial.walk.order.items
    → Walking classes l.walk.progress.items (reverse l.walk.path.items) l.walk.order.items × KeepsReached l.initial.walk.progress.items l.walk.progress.items

abbrev pub decreases-loop-top : goal.decreases-loop-top
decreases-loop-top l = work_left l.walk.progress.items l.walk.path.items
