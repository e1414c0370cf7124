use Rattle.std.proofs.Common.{◌≡◌, ◌++◌, map, drop}
use Rattle.room_ast.specs.ChartTree.{graph_view, state_view}
use Rattle.derived_classes.specs.Searching.{states_in}
use Rattle.derived_classes.proofs.rules.names.states_in.Given as goal

abbrev pub invariant-loop-item : goal.invariant-loop-item
invariant-loop-item l = map (λ s. state_view s.now) l.states.items ++ states_in (graph_view (drop l.item-index l.graph)) ≡ states_in (graph_view l.graph)
