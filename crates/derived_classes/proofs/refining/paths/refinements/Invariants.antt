use Rattle.std.proofs.Common.{◌≡◌, ◌++◌, drop}
use Rattle.room_ast.specs.ChartTree.{graph_view}
use Rattle.derived_classes.specs.Refining.{refinements}
use Rattle.derived_classes.specs.Views.{refining_views}
use Rattle.derived_classes.proofs.refining.paths.refinements.Given as goal

abbrev pub invariant-loop-item : goal.invariant-loop-item
invariant-loop-item l = refining_views l.found.items ++ refinements (graph_view (drop l.item-index l.items.items)) ≡ refinements (graph_view l.items.items)
