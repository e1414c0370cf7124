use Rattle.std.proofs.Common.{◌≡◌, take, map, Some}
use Rattle.number_graphs.specs.class_containment.Walks.{parts_left}
use Rattle.number_graphs.proofs.class_containment.no_progress.Given as goal

abbrev pub invariant-loop-class : goal.invariant-loop-class
invariant-loop-class l = map parts_left l.progress.items ≡ map (λ parts. Some parts) (take l.class-index l.classes)
