use Rattle.std.proofs.Common.{◌≡◌, ◌∷◌, length}
use Rattle.room_ast.specs.ChartTree.{graph_view}
use Rattle.derived_classes.specs.Refining.{names_transition}
use Rattle.derived_classes.proofs.rules.named.names_transition.Given as goal

abbrev pub invariant-loop-rest : goal.invariant-loop-rest
invariant-loop-rest l = names_transition (l.name ∷ l.rest) (graph_view l.graph) ≡ names_transition (l.fn.first ∷ l.fn.others) (graph_view l.fn.items)

abbrev pub decreases-loop-rest : goal.decreases-loop-rest
decreases-loop-rest l = length l.rest
