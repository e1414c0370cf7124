use Rattle.std.proofs.Common.{◌≡◌, drop}
use Rattle.room_ast.specs.ChartTree.{graph_view}
use Rattle.derived_classes.specs.Refining.{first_state}
use Rattle.derived_classes.proofs.rules.named.first_state.Given as goal

abbrev pub invariant-loop-item : goal.invariant-loop-item
invariant-loop-item l = first_state l.name (graph_view (drop l.item-index l.items)) ≡ first_state l.name (graph_view l.items)
