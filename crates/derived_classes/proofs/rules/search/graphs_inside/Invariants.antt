use Rattle.std.proofs.Common.{◌≡◌, map, take}
use Rattle.room_ast.specs.ChartTree.{state_view}
use Rattle.derived_classes.specs.Searching.{inside}
use Rattle.derived_classes.specs.Views.{search_views}
use Rattle.derived_classes.proofs.rules.search.graphs_inside.Given as goal

abbrev pub invariant-loop-state : goal.invariant-loop-state
invariant-loop-state l = search_views l.searches.items ≡ map inside (map (λ s. state_view s.now) (take l.state-index l.states))
