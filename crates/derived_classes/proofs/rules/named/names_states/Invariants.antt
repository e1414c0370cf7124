use Rattle.std.proofs.Common.{◌≡◌, drop}
use Rattle.room_ast.specs.ChartTree.{graph_view}
use Rattle.derived_classes.specs.Refining.{names_states}
use Rattle.derived_classes.proofs.rules.named.names_states.Given as goal

abbrev pub invariant-loop-name : goal.invariant-loop-name
invariant-loop-name l = names_states (drop l.name-index l.path) (graph_view l.graph) ≡ names_states l.path (graph_view l.fn.items)
