use Rattle.std.proofs.Common.{◌≡◌, drop}
use Rattle.room_ast.specs.ChartTree.{graph_view}
use Rattle.derived_classes.specs.Refining.{followed_by, other_items}
use Rattle.derived_classes.proofs.derived_class.add_others.Given as goal

abbrev pub invariant-loop-item : goal.invariant-loop-item
invariant-loop-item l = followed_by (graph_view l.items.items) (other_items (graph_view (drop l.item-index l.more.items))) ≡ followed_by (graph_view l.initial.items.items) (other_items (graph_view l.more.items))
